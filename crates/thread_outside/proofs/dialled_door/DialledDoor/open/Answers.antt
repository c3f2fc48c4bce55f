use Rattle.std.proofs.Common.{◌+◌, ◌∷◌, [], ◌++◌, length, length-append, Some, ap, sym, ◌∙◌}
use Rattle.std.specs.Prelude.{slice_get}
use Rattle.thread_outside.specs.DialledDoors.{TakerState, DoorDialState, new_door_dial}
use Rattle.thread_outside.proofs.CallSteps.{one_more_dial}
use Rattle.thread_outside.proofs.dialled_door.DialledDoor.open.Goals as goal

pub loop-dial-preserved : goal.loop-dial-preserved
loop-dial-preserved g c =
    let last = c.loop-dial.invariant in
    let now = c.in_ok-next.ensures.taker in
    let fresh = c.in_ok-next.ensures.dial ∙ ap (new_door_dial c.loop-dial.taker.queue) last.dials in
    let items = c.in_ok-push.ensures.items ∙ ap (λ x. c.loop-dial.made.items ++ x ∷ []) fresh in record {
      dials = ap (λ (t : TakerState). t.dials) now ∙ ap (λ n. n + 1) last.dials;
      taken = ap (λ (t : TakerState). t.taken) now ∙ last.taken;
      empty_takes = ap (λ (t : TakerState). t.empty_takes) now ∙ last.empty_takes;
      many = ap (length {A = DoorDialState}) items ∙ length-append c.loop-dial.made.items (new_door_dial c.loop-dial.taker.queue c.loop-dial.dial ∷ []) ∙ ap (λ n. n + 1) last.many;
      made = λ p lt.
          ap (λ l. slice_get l p) items
          ∙ one_more_dial c.loop-dial.taker.queue c.loop-dial.made.items c.loop-dial.dial p last.many last.made lt
          ∙ ap (λ (t : TakerState). Some (new_door_dial t.queue p)) (sym now);
    }
