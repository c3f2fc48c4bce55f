use Rattle.std.proofs.Common.{◌≡◌, ◌++◌, take}
use Rattle.std.specs.Prelude.{flat_map, filter}
use Rattle.guild_model.specs.Sight.{standing}
use Rattle.channel_privacy.specs.Withheld.{gained}
use Rattle.channel_privacy.specs.ByNote.{gained_by}
use Rattle.channel_privacy.proofs.losses.add_gains.Given as goal

abbrev pub invariant-loop-channel : goal.invariant-loop-channel
invariant-loop-channel l =
    (l.list.items ≡ l.fn.list.items ++ flat_map (gained l.to.after l.to.viewer) (filter (gained_by l.was l.private l.to.after l.to.me) (take l.channel-index l.channel-items)))
    × (l.standing ≡ standing l.to.after l.to.me)
