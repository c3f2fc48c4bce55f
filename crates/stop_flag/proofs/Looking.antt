-- What a look at a flag tells, by the word that it found.
use Rattle.std.proofs.Common.{◌≡◌, ◌≢◌, ℕ, zero, suc, Bool, true, false, not, eqb, nat_eq, MatchBool, sym, refl, subst, ⊎_elim, arith}
use Rattle.std.proofs.lemmas.Bool.Decides.{eqb_tells}
use Rattle.atomic_table.specs.Seated.{TableId}
use Rattle.stop_flag.specs.declared.flag_view.FlagView.{FlagView}
use Rattle.stop_flag.specs.FlagRule.{WasUnset, finding}
use Rattle.stop_flag.specs.Flags.{SeatState, after_finding, after_look, WasNotSet}

-- what the view says of the seat
abbrev pub told : TableId → ℕ → FlagView → SeatState
told flag number v = record { flag = flag; number = number; has_set = v.has_set; found = v.found; looks = v.looks }

abbrev Answers : Bool → SeatState → SeatState → Type 0
Answers is_set before after = MatchBool is_set ((by : ℕ) × (after ≡ after_finding before by)) ((after ≡ after_look before) × WasNotSet after)

abbrev pub Tells : ℕ → SeatState → SeatState → Type 0
Tells word before after = Answers (not (nat_eq word 0)) before after

not_zero : (by : ℕ) → nat_eq (suc by) 0 ≡ false
not_zero by = ⊎_elim (λ (t : (eqb (suc by) 0 ≡ true) × (suc by ≡ 0)). absurd (omega (arith, t.1))) (λ (t : (eqb (suc by) 0 ≡ false) × (suc by ≢ 0)). t.0) (eqb_tells (suc by) 0)

by_word : (flag : TableId) (number word : ℕ) (v : FlagView) → v.number ≡ number → (word ≡ 0 → WasUnset (finding v word)) → Tells word (told flag number v) (told flag number (finding v word))
by_word flag number zero v same unset = (refl, (finding v 0, refl, same, refl, unset refl))
by_word flag number (suc by) v same unset =
    subst (λ (b : Bool). Answers (not b) (told flag number v) (told flag number (finding v (suc by)))) (sym (not_zero by)) (by, refl)

pub tells : (flag : TableId) (number word : ℕ) (v w : FlagView) → v.number ≡ number → w ≡ finding v word → (word ≡ 0 → WasUnset w) → Tells word (told flag number v) (told flag number w)
tells flag number word v w same found =
    subst (λ (u : FlagView). (word ≡ 0 → WasUnset u) → Tells word (told flag number v) (told flag number u)) (sym found) (by_word flag number word v same)
