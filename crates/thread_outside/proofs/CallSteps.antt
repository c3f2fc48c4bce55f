-- What one more call makes of what a door took, and one more dial of its dials.
use Rattle.std.proofs.Common.{◌≡◌, ℕ, zero, suc, ◌+◌, ◌<◌, ◌≤◌, List, [], ◌∷◌, ◌++◌, length, Some, None, sym, refl, ap, ◌∙◌, arith, append_assoc, lt_of_not-le}
use Rattle.std.specs.Prelude.{slice_get}
use Rattle.std.specs.Option.{option_to_list}
use Rattle.std.specs.declared.alloc.Global.{Global}
use Rattle.std.proofs.lemmas.List.{append-nil}
use mathlib.Core.Logic.{dite}
use native.Mathlib.Decide.{dec_le}
use Rattle.crossbeam_queue.specs.SegTies.{SegId}
use Rattle.thread_outside.specs.Lanes.{LaneEnds}
use Rattle.thread_outside.specs.CallLists.{CallState, ends_in}
use Rattle.thread_outside.specs.DialledDoors.{TakerState, DoorDialState, new_door_dial, after_call_of, GoesOn, TakesEnds}

pub ends_snoc : (l : List CallState) (x : CallState) → ends_in (l ++ x ∷ []) ≡ ends_in l ++ option_to_list x.ends
ends_snoc [] x = append-nil (option_to_list x.ends)
ends_snoc (c ∷ cs) x = ap (λ l. option_to_list c.ends ++ l) (ends_snoc cs x) ∙ sym (append_assoc (option_to_list c.ends) (ends_in cs) (option_to_list x.ends))

pub goes_on : (old now : List CallState) (x : CallState) → GoesOn old now → GoesOn old (now ++ x ∷ [])
goes_on old now x g = (g.0 ++ x ∷ [], ap (λ l. l ++ x ∷ []) g.1 ∙ append_assoc old g.0 (x ∷ []))

-- an end of a dial brings no ends of links
pub no_ends : (l : List CallState) (x : CallState) → x.ends ≡ None → ends_in (l ++ x ∷ []) ≡ ends_in l
no_ends l x is = ends_snoc l x ∙ ap (λ o. ends_in l ++ option_to_list o) is ∙ append-nil (ends_in l)

pub takes_one : (first last : TakerState) (x : CallState) (e : LaneEnds) → last.queue ≡ first.queue → last.dials ≡ first.dials → GoesOn first.taken last.taken
    → ends_in last.taken ≡ ends_in first.taken → last.empty_takes ≡ first.empty_takes → x.ends ≡ Some e → TakesEnds first (after_call_of last x) (Some e)
takes_one first last x e queue dials on ends empty_takes is = record {
  queue = queue;
  dials = dials;
  on = goes_on first.taken last.taken x on;
  ends = ends_snoc last.taken x ∙ ap (λ l. l ++ option_to_list x.ends) ends ∙ ap (λ o. ends_in first.taken ++ option_to_list o) is;
  empty_takes = empty_takes;
  none = tt;
}

before : (xs ys : List DoorDialState) (k : ℕ) → k < length xs → slice_get (xs ++ ys) k ≡ slice_get xs k
before [] ys k lt = absurd (omega arith)
before (x ∷ xs) ys zero lt = refl
before (x ∷ xs) ys (suc k) lt = before xs ys k (omega arith)

here : (xs : List DoorDialState) (y : DoorDialState) (k : ℕ) → k ≡ length xs → slice_get (xs ++ y ∷ []) k ≡ Some y
here [] y zero e = refl
here [] y (suc k) e = absurd (omega arith)
here (x ∷ xs) y zero e = absurd (omega arith)
here (x ∷ xs) y (suc k) e = here xs y k (omega arith)

pub one_more_dial : (queue : SegId Global) (xs : List DoorDialState) (n : ℕ) (p : ℕ) → length xs ≡ n → ((k : ℕ) → k < n → slice_get xs k ≡ Some (new_door_dial queue k)) → p < n + 1
    → slice_get (xs ++ new_door_dial queue n ∷ []) p ≡ Some (new_door_dial queue p)
one_more_dial queue xs n p len h lt = dite (dec_le n p)
    (λ (le : n ≤ p). let same : p ≡ n = omega arith in here xs (new_door_dial queue n) p (omega arith) ∙ ap (λ k. Some (new_door_dial queue k)) (sym same))
    (λ not. let low : p < n = lt_of_not-le not in before xs (new_door_dial queue n ∷ []) p (omega arith) ∙ h p low)
