use Rattle.std.proofs.Common.{◌≡◌, map, take}
use Rattle.dispatch_types.specs.Objects.{channel_object}
use Rattle.edit_events.proofs.create.channels.Given as goal

abbrev pub invariant-loop-channel : goal.invariant-loop-channel
invariant-loop-channel l = l.objects ≡ map (channel_object l.guild) (take l.channel-index l.channels)
