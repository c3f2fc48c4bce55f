use Rattle.std.proofs.Common.{◌≡◌, ◌++◌, take}
use Rattle.std.specs.Prelude.{flat_map, filter}
use Rattle.guild_model.specs.Sight.{standing}
use Rattle.channel_privacy.specs.Withheld.{lost}
use Rattle.channel_privacy.specs.ByNote.{lost_by}
use Rattle.channel_privacy.proofs.losses.add_losses.Given as goal

abbrev pub invariant-loop-channel : goal.invariant-loop-channel
invariant-loop-channel l =
    (l.list.items ≡ l.fn.list.items ++ flat_map (lost l.to.after.id l.to.viewer) (filter (lost_by l.was l.private l.to.after l.to.me) (take l.channel-index l.channel-items)))
    × (l.standing ≡ standing l.to.after l.to.me)
