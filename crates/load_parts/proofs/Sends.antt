-- The parts of a load, and what they gave, may go to another thread.
use denote.RattleType.{RattleType}
use denote.Param.Send.{IsSend, IsSync, sendable}
use Rattle.std.proofs.Crossing.{crosses}
use Rattle.std.proofs.alloc.Global.TheSendSync as global
use Rattle.std.proofs.boxed.Box.TheSendSync as boxed
use Rattle.std.proofs.option.Option.TheSendSync as option
use Rattle.std.proofs.sync.Arc.TheSendSync as arc
use Rattle.std.proofs.vec.Vec.TheSendSync as vec
use Rattle.gate_outside.below.collections.proofs.text.Text.TheSendSync as text
use Rattle.gate_outside.proofs.fault_plan.FaultPlan.TheSendSync as plan
use Rattle.thread_outside.below.atomic_blocks.proofs.web.Seat.TheSendSync as web_seat
use Rattle.thread_outside.proofs.call.Call.TheSendSync as call
use Rattle.thread_outside.proofs.call_taker.CallTaker.TheSendSync as taker
use Rattle.thread_outside.proofs.calls.Calls.TheSendSync as calls
use Rattle.thread_outside.proofs.kept_notes.KeptNotes.TheSendSync as kept_notes
use Rattle.thread_outside.proofs.kept_tale.KeptTale.TheSendSync as kept_tale
use Rattle.thread_outside.proofs.link_shelf.Place.TheLaws.TheKnot as knot
use Rattle.thread_outside.specs.contracts.dialled_door.DialledDoor
use Rattle.thread_outside.specs.contracts.door_dial.DoorDial
use Rattle.thread_outside.specs.contracts.kept_notes.KeptNotes
use Rattle.worker_core.proofs.io.Input.TheSendSync as input
use Rattle.worker_core.specs.contracts.io.Input
use Rattle.gate_parts.proofs.actor_part.ActorDone.TheSendSync as actor_done
use Rattle.gate_parts.proofs.actor_part.ActorPart.TheSendSync as actor_part
use Rattle.gate_parts.proofs.script_part.ScriptDone.TheSendSync as script_done
use Rattle.gate_parts.proofs.script_part.ScriptPart.TheSendSync as script_part
use Rattle.gate_parts.proofs.start_word.StartWord.TheSendSync as start_word
use Rattle.gate_parts.proofs.worker_part.WorkerDone.TheSendSync as worker_done
use Rattle.gate_parts.proofs.worker_part.WorkerPart.TheSendSync as worker_part
use Rattle.gate_parts.specs.contracts.worker_part.WorkerDone
use Rattle.gate_parts.specs.contracts.worker_part.WorkerPart
use Rattle.load_client.proofs.load_client.LoadClient.TheSendSync as load_client
use Rattle.load_parts.proofs.client_part.ClientDone.TheSendSync as client_done
use Rattle.load_parts.specs.contracts.client_part.ClientPart
use Rattle.load_parts.specs.contracts.load_part.LoadDone
use Rattle.load_parts.specs.contracts.load_part.LoadPart

module _ (R : RattleType) (sr : IsSend R) (yr : IsSync R) where
  dial : IsSend (DoorDial.the_field R).row
  dial = search (web_seat.the_send, text.the_send, option.the_field_send, option.the_send, kept_tale.the_send, arc.the_send, boxed.the_send, vec.the_send, global.the_field_send, global.the_send, call.the_send, calls.the_send, calls.the_sync, crosses, knot.crosses, sendable) depth 60 fits 20000

  door : IsSend (DialledDoor.the_row R)
  door = search (taker.the_send, plan.the_send, kept_tale.the_send, global.the_field_send, crosses, knot.crosses, sendable) depth 60 fits 20000

  module _ (C : RattleType) (sc : IsSend C) where
    client : IsSend (ClientPart.the_field C R).row
    client = let d = dial in search (load_client.the_field_send, start_word.the_field_send, global.the_field_send, sendable) depth 20

    worker : IsSend (WorkerPart.the_field (DialledDoor.the_row R) C (KeptNotes.the_row Input.the_row) R).row
    worker = let d = door in search (worker_part.the_field_send, kept_notes.the_send, input.the_send, sendable) depth 20

    worker_after : IsSend (WorkerDone.the_field (DialledDoor.the_row R) C (KeptNotes.the_row Input.the_row)).row
    worker_after = let d = door in search (worker_done.the_field_send, kept_notes.the_send, input.the_send, sendable) depth 20

    pub part_sends : IsSend (LoadPart.the_row C R)
    part_sends = let c = client in let w = worker in search (actor_part.the_field_send, script_part.the_field_send, sendable) depth 20

    pub done_sends : IsSend (LoadDone.the_row C R)
    done_sends = let w = worker_after in search (actor_done.the_field_send, script_done.the_field_send, client_done.the_field_send, sendable) depth 20
