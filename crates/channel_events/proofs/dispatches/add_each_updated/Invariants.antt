use Rattle.std.proofs.Common.{◌≡◌, ◌++◌, take}
use Rattle.std.specs.Prelude.{flat_map}
use Rattle.channel_events.specs.Dispatches.{updated}
use Rattle.channel_events.proofs.dispatches.add_each_updated.Given as goal

abbrev pub invariant-loop-channel : goal.invariant-loop-channel
invariant-loop-channel l = l.list.items ≡ l.fn.list.items ++ flat_map (updated l.to.after l.to.viewer) (take l.channel-index l.channels)
