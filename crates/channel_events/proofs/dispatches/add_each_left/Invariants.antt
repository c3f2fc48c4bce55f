use Rattle.std.proofs.Common.{◌≡◌, ◌++◌, take}
use Rattle.std.specs.Prelude.{flat_map}
use Rattle.event_views.specs.Ended.{voice_ends}
use Rattle.channel_events.proofs.dispatches.add_each_left.Given as goal

abbrev pub invariant-loop-voice : goal.invariant-loop-voice
invariant-loop-voice l = l.list.items ≡ l.fn.list.items ++ flat_map (voice_ends l.to.after.id l.to.viewer) (take l.voice-index l.voices)
