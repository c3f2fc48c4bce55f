use Rattle.std.proofs.Common.{◌≡◌, ◌+◌, ap, arith}
use Rattle.edit_text.specs.declared.line.Line.TheVariants.{Guild}
use Rattle.load_maker.specs.Edits.{guild_id}
use Rattle.load_maker.specs.Script.{guild_line}
use Rattle.load_maker.proofs.Ranges.{map_more}
use Rattle.load_maker.proofs.heads.add_guilds.Goals as goal

pub loop-before-preserved : goal.loop-before-preserved
loop-before-preserved c =
    let id : c.id_in.result ≡ guild_id (c.loop-before.before + 1) = omega (arith, c.id_in.ensures, c.guild_id.ensures) in
    map_more guild_line c.args.lines.now.items c.loop-before.lines.items c.push.new.self.items (Guild c.id_in.result) c.loop-before.before c.loop-before.invariant c.in_ok-push.ensures.items (ap (λ x. Guild x) id)
