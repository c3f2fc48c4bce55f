use Rattle.std.proofs.Common.{◌+◌, [], refl}
use Rattle.load_maker.specs.Edits.{guild_id}
use Rattle.load_maker.proofs.Ranges.{map_more}
use Rattle.load_client.proofs.name_goal.guilds.Goals as goal

pub loop-before-preserved : goal.loop-before-preserved
loop-before-preserved c =
    map_more guild_id [] c.loop-before.guilds c.push.new.self (guild_id (c.loop-before.before + 1)) c.loop-before.before c.loop-before.invariant c.in_ok-push.ensures.ok refl
