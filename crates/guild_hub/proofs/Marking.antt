-- What a step on the word of a mark owes.
use Rattle.std.proofs.Common.{◌≡◌, ◌<◌, ◌==◌, ℕ, Bool, true, false, true≢false, List, [], ◌∷◌, ◌++◌, length, sym, refl, ap, ◌∙◌, subst, inl, arith}
use Rattle.std.specs.Prelude.{Option}
use prog.Atomic.{either}
use mathlib.Core.List.{IsPrefix}
use Rattle.logbook.specs.Pages.{Cell, no_nib, step, Moves, Goes, keeps, cell}
use Rattle.guild_hub.specs.declared.mark_step.MarkStep.{MarkStep}
use Rattle.guild_hub.specs.declared.mark_step.MarkStep.TheVariants.{Store, Load}
use Rattle.guild_hub.specs.Marks.{has_store, word_of, IsMark, Stores, Loads, EndsWithLoad}

stored_after : (xs : List MarkStep) → has_store (xs ++ Store ∷ []) ≡ true
stored_after [] = refl
stored_after (Store ∷ xs) = refl
stored_after (Load ∷ xs) = stored_after xs

same_after_load : (xs : List MarkStep) → has_store (xs ++ Load ∷ []) ≡ has_store xs
same_after_load [] = refl
same_after_load (Store ∷ xs) = refl
same_after_load (Load ∷ xs) = same_after_load xs

stored_front : (xs ys : List MarkStep) → has_store xs ≡ true → has_store (xs ++ ys) ≡ true
stored_front [] ys s = absurd (true≢false (sym s))
stored_front (Store ∷ xs) ys s = refl
stored_front (Load ∷ xs) ys s = stored_front xs ys s

-- a mark that was stored is stored later
pub still_stored : (xs ys : List MarkStep) → IsPrefix xs ys → has_store xs ≡ true → has_store ys ≡ true
still_stored xs ys p s = subst (λ (l : List MarkStep). has_store l ≡ true) p.1 (stored_front xs p.0 s)

-- a mark that was stored is stored after a load
pub stored_at_load : (xs ys : List MarkStep) → EndsWithLoad xs ys → has_store xs ≡ true → has_store ys ≡ true
stored_at_load xs ys e s = subst (λ (l : List MarkStep). has_store l ≡ true) (sym e.2) (same_after_load e.0 ∙ still_stored xs e.0 e.1 s)

becomes_one : (b : Bool) → either (word_of b == 0) 1 (word_of b) ≡ 1
becomes_one true = refl
becomes_one false = refl

abbrev cells_of : ℕ → List Cell
cells_of n = (n, true) ∷ (0, true) ∷ []

-- a step that stores the mark, whether or not it was stored before
pub stores_moves : (s : Option ℕ) (v : List MarkStep) (e : MarkStep)
    → Moves IsMark (λ l. []) (λ x y n. Unit {0}) 0 (v, (no_nib, s)) (λ n. either (n == 0) 1 n) (Stores (step 0 0 1 e) (v, (no_nib, s)))
stores_moves s v e cells log kept p away =
    let P : List Cell → Type 0 = λ c. (0 < length c) × ((cell c 0).1 ≡ true) × Goes IsMark (λ l. []) (λ x y n. Unit {0}) 0 (v, (no_nib, s)) (λ n. either (n == 0) 1 n) (Stores (step 0 0 1 e) (v, (no_nib, s))) c log in
    let now : either (word_of (has_store log) == 0) 1 (word_of (has_store log)) ≡ word_of (has_store (log ++ Store ∷ [])) = becomes_one (has_store log) ∙ sym (ap word_of (stored_after log)) in
    subst P (sym kept.words) (omega arith, refl, (keeps, Store ∷ [], s, tt, record { words = ap cells_of now }, inl (refl, refl), stored_after log))

-- a step that loads the mark
pub loads_moves : (s : Option ℕ) (v : List MarkStep) (e : MarkStep)
    → Moves IsMark (λ l. []) (λ x y n. Unit {0}) 0 (v, (no_nib, s)) (λ n. n) (Loads (step 0 0 0 e) (v, (no_nib, s)))
loads_moves s v e cells log kept p away =
    let P : List Cell → Type 0 = λ c. (0 < length c) × ((cell c 0).1 ≡ true) × Goes IsMark (λ l. []) (λ x y n. Unit {0}) 0 (v, (no_nib, s)) (λ n. n) (Loads (step 0 0 0 e) (v, (no_nib, s))) c log in
    let same : word_of (has_store log) ≡ word_of (has_store (log ++ Load ∷ [])) = ap word_of (sym (same_after_load log)) in
    subst P (sym kept.words) (omega arith, refl, (keeps, Load ∷ [], s, tt, record { words = ap cells_of same }, inl (refl, refl), ((log, p, refl), same)))
