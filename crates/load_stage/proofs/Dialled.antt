-- Three doors and their dials.
use Rattle.std.proofs.Common.{◌≡◌, List, [], ◌∷◌, ◌++◌, map, refl, sym, ap, subst, ◌∙◌}
use Rattle.std.specs.List.{range_with_len}
use Rattle.std.specs.Global.{Global}
use Rattle.crossbeam_queue.specs.SegTies.{SegId}
use Rattle.thread_outside.specs.DialledDoors.{DialledState, DoorDialState, new_dialled, new_door_dial}
use Rattle.run_stage.specs.Dealing.{AreFrom}
use Rattle.load_stage.specs.Doors.{IsDoorOf, IsDialOf, HasDoors}
use Rattle.load_stage.specs.Turns.{in_turn}

-- three items, one after another
pub three_pushed : {X : Type 0} (none one two three : List X) (a b c : X) → none ≡ [] → one ≡ none ++ a ∷ [] → two ≡ one ++ b ∷ [] → three ≡ two ++ c ∷ []
    → three ≡ a ∷ b ∷ c ∷ []
three_pushed none one two three a b c n o w t =
    t ∙ ap (λ l. l ++ c ∷ []) (w ∙ ap (λ l. l ++ b ∷ []) (o ∙ ap (λ l. l ++ a ∷ []) n))

abbrev dials_of : SegId Global → List DoorDialState
dials_of queue = map (new_door_dial queue) (range_with_len 0 4)

pub has_doors : (a b c : SegId Global) (doors : List DialledState) (first second third dials : List DoorDialState)
    → doors ≡ new_dialled a 4 [] ∷ new_dialled b 4 [] ∷ new_dialled c 4 [] ∷ []
    → first ≡ map (new_door_dial a) (range_with_len 0 4) → second ≡ map (new_door_dial b) (range_with_len 0 4) → third ≡ map (new_door_dial c) (range_with_len 0 4)
    → dials ≡ in_turn first second third → HasDoors doors dials
has_doors a b c doors first second third dials d f s t e =
    let queues = a ∷ b ∷ c ∷ [] in
    let whole : dials ≡ in_turn (dials_of a) (dials_of b) (dials_of c) =
    e ∙ ap (λ l. in_turn l second third) f ∙ ap (λ l. in_turn (dials_of a) l third) s ∙ ap (λ l. in_turn (dials_of a) (dials_of b) l) t in
    record {
      queues = queues;
      three = refl;
      doors_are = subst (AreFrom (IsDoorOf queues) 0 3) (sym d) (refl, (refl, (refl, tt)));
      dials_are = subst (AreFrom (IsDialOf queues) 0 12) (sym whole)
          (refl, (refl, (refl, (refl, (refl, (refl, (refl, (refl, (refl, (refl, (refl, (refl, tt))))))))))));
    }
