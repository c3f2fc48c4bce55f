-- What the watcher has told after a dispatch.
use Rattle.std.proofs.Common.{◌≡◌, ◌⊎◌, ℕ, ◌+◌, ◌≤◌, List, [], ◌∷◌, ◌++◌, Bool, true, Some, refl, sym, ap, subst, ◌∙◌, append_assoc, append-nil}
use Rattle.std.specs.Prelude.{unwrap_or}
use Rattle.std.specs.declared.option.Option.{Option}
use Rattle.gate_outside.specs.Causes.{Rose}
use Rattle.gate_outside.specs.Streams.{Carries}
use Rattle.client_run.specs.Watched.{WatchTale, HasTold, HasToldFront}
use Rattle.client_run.proofs.Lines.{told_nothing}

pub same_some : {A : Type 0} (x y : A) → ◌≡◌ {A = Option A} (Some x) (Some y) → x ≡ y
same_some {A} x y e = ap (λ (o : Option A). unwrap_or o x) e

abbrev pub tale : (asked count : ℕ) → Option (List ℕ) → List ℕ → ℕ → Bool → WatchTale
tale asked count got waits faults failed = record { count = Some asked; goal = Some count; got = got; waits = waits; faults = faults; failed = failed }

-- nothing was added to what waits in the watcher
pub told_before : (asked count : ℕ) (got : Option (List ℕ)) (waits held later_held : List ℕ) (faults : ℕ) (failed : Bool) (lines : List (List ℕ)) → later_held ≡ held
    → HasToldFront (tale asked count got (waits ++ held) faults failed) lines (tale asked count got (waits ++ later_held) faults failed)
told_before asked count got waits held later_held faults failed lines same = record {
  front = [];
  rest = lines;
  parts = refl;
  told = subst (λ (l : List ℕ). HasTold (tale asked count got (waits ++ held) faults failed) [] (tale asked count got (waits ++ l) faults failed)) (sym same) (told_nothing (tale asked count got (waits ++ held) faults failed));
}

-- the line was added to what waited in the watcher, and what waited there was written
pub told_line : (asked later_asked count : ℕ) (got later_got : Option (List ℕ)) (waits later_waits held added later_held line : List ℕ) (faults later_faults : ℕ) (failed later_failed : Bool)
    → later_asked ≡ asked + 1 → added ≡ held ++ line → Carries got later_got (later_waits ++ later_held) (waits ++ added) → faults ≤ later_faults → (later_failed ≡ true → (failed ≡ true) ⊎ Rose faults later_faults)
    → HasTold (tale asked count got (waits ++ held) faults failed) (line ∷ []) (tale later_asked count later_got (later_waits ++ later_held) later_faults later_failed)
told_line asked later_asked count got later_got waits later_waits held added later_held line faults later_faults failed later_failed one is carries later rose = record {
  count = ap Some one;
  goal = refl;
  text = subst (λ (l : List ℕ). Carries got later_got (later_waits ++ later_held) l)
      (ap (λ (l : List ℕ). waits ++ l) is ∙ sym (append_assoc waits held line) ∙ ap (λ (l : List ℕ). (waits ++ held) ++ l) (sym (append-nil line))) carries;
  later = later;
  rose = rose;
}
