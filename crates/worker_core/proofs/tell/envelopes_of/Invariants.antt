-- the texts so far
use Rattle.std.proofs.Common.{◌≡◌, map, take}
use Rattle.event_json.specs.Text.{envelope_of}
use Rattle.worker_core.proofs.tell.envelopes_of.Given as goal

abbrev pub invariant-loop-dispatch : goal.invariant-loop-dispatch
invariant-loop-dispatch l = l.envelopes.items ≡ map envelope_of (take l.dispatch-index l.dispatches)
