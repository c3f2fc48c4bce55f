-- What a step on the word that counts a history owes.
use Rattle.std.proofs.Common.{◌≡◌, ◌<◌, ◌+◌, ◌==◌, ℕ, Bool, true, false, List, [], ◌∷◌, ◌++◌, length, sym, refl, ap, ◌∙◌, subst, append-nil, inl, arith}
use Rattle.std.proofs.lemmas.List.{length-append}
use Rattle.std.proofs.lemmas.Bool.Decides.{nat_tests}
use Rattle.std.specs.Prelude.{Option}
use prog.Atomic.{either}
use mathlib.Core.List.{IsPrefix}
use Rattle.logbook.specs.Pages.{Cell, no_nib, step, Moves, Goes, keeps, cell}
use Rattle.guild_hub.specs.Books.{IsCounted, Adds}

module _ {E : Type 0} (may_be : List E → Type 0) where
  -- the history that has just the items that were seen is what was seen
  just_seen : (v log : List E) → IsPrefix v log → length log ≡ length v → v ≡ log
  just_seen v log p same = sym (append-nil v) ∙ (ap (λ l. v ++ l) (sym (empty p.0 (omega (arith, length-append v p.0, ap length p.1)))) ∙ p.1) where
    empty : (xs : List E) → length xs ≡ 0 → xs ≡ []
    empty [] e = refl
    empty (x ∷ xs) e = absurd (omega arith)

  adds_goes : (s : Option ℕ) (v log : List E) (e : E) (old : ℕ) → length v ≡ old → may_be (v ++ e ∷ []) → may_be log → IsPrefix v log
      → (b : Bool) → (length log == old) ≡ b
      → Goes (IsCounted may_be) (λ l. []) (λ x y n. Unit {0}) 0 (v, (no_nib, s)) (λ n. either (n == old) (old + 1) n) (Adds may_be (step 0 old (old + 1) e) (v, (no_nib, s))) ((length log, true) ∷ (0, true) ∷ []) log
  adds_goes s v log e old len may legal p true is =
      let here : length log ≡ old = grind (arith, nat_tests) in
      let same : v ≡ log = just_seen v log p (here ∙ sym len) in
      let longer : either (length log == old) (old + 1) (length log) ≡ length (log ++ e ∷ []) = rw is (omega (arith, length-append log (e ∷ []))) in (
        keeps,
        e ∷ [],
        s,
        tt,
        record { words = ap (λ (k : ℕ). (k, true) ∷ (0, true) ∷ []) longer; legal = subst (λ l. may_be (l ++ e ∷ [])) same may },
        inl (refl, refl),
        λ found. (ap (λ l. l ++ e ∷ []) (sym same), subst (λ l. may_be (l ++ e ∷ [])) same may),
      )
  adds_goes s v log e old len may legal p false is =
      let stays : either (length log == old) (old + 1) (length log) ≡ length (log ++ []) = rw is (omega (arith, length-append log [])) in (
        keeps,
        [],
        s,
        tt,
        record { words = ap (λ (k : ℕ). (k, true) ∷ (0, true) ∷ []) stays; legal = subst may_be (sym (append-nil log)) legal },
        inl (refl, refl),
        λ found. absurd (grind (arith, nat_tests)),
      )

  -- a step that adds an item where the history has just those that were seen
  pub adds_moves : (s : Option ℕ) (v : List E) (e : E) (old : ℕ) → length v ≡ old → may_be (v ++ e ∷ [])
      → Moves (IsCounted may_be) (λ l. []) (λ x y n. Unit {0}) 0 (v, (no_nib, s)) (λ n. either (n == old) (old + 1) n) (Adds may_be (step 0 old (old + 1) e) (v, (no_nib, s)))
  adds_moves s v e old len may cells log kept p away =
      let P : List Cell → Type 0 = λ c. (0 < length c) × ((cell c 0).1 ≡ true) × Goes (IsCounted may_be) (λ l. []) (λ x y n. Unit {0}) 0 (v, (no_nib, s)) (λ n. either (n == old) (old + 1) n) (Adds may_be (step 0 old (old + 1) e) (v, (no_nib, s))) c log in
      subst P (sym kept.words) (omega arith, refl, adds_goes s v log e old len may kept.legal p (length log == old) refl)
