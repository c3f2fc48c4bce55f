-- Readers that have seen their logs to the seals.
use Rattle.std.proofs.Common.{◌≡◌, ℕ, zero, suc, ◌+◌, ◌≤◌, List, [], ◌∷◌, Option, IfSome, All, inl, inr, length, take, get_or, slice_get, sym, ap, subst, ◌∙◌, arith}
use Rattle.std.proofs.lemmas.List.{take_all, take_more, length-append, length-take-le}
use Rattle.std.proofs.lemmas.List.Elements.{All-nil, All-cons, All-head, All-tail, All-append}
use Rattle.std.proofs.lemmas.Option.{slice_get_cases}
use mathlib.Core.List.{IsPrefix}
use Rattle.edit_apply.specs.declared.Edit.{Edit}
use Rattle.guild_hub.specs.Logs.{Published}
use Rattle.guild_hub.specs.Sights.{Seeing, end_of}
use Rattle.world_law.specs.Inputs.{Input}
use Rattle.worker_run.specs.Hubs.{handled_by, handled_by_all, AreInOrder, passed, Reads, AllRead, HasSeenAll}
use Rattle.worker_run.proofs.Hubs.{front_itself, front_on}

-- inputs in order only add to what was handled
handled_on : (g : ℕ) (done : List Edit) (is : List Input) (log : List Edit) → AreInOrder g done is log → IsPrefix done (handled_by_all g done is)
handled_on g done [] log order = front_itself done
handled_on g done (i ∷ is) log order =
    front_on done (handled_by g done i) (handled_by_all g (handled_by g done i) is) order.0 (handled_on g (handled_by g done i) is log order.1)

-- a log that was seen to its seal is still so after more inputs
module _ (is : List Input) (a b : ℕ × Seeing) (reads : Reads is a b) (all : HasSeenAll a) where
  same_log : b.1.log ≡ a.1.log
  same_log = reads.log.final all.0

  front : IsPrefix (passed a.1) (passed b.1)
  front = subst (λ (l : List Edit). IsPrefix (passed a.1) l) (sym reads.passes) (handled_on a.0 (passed a.1) is b.1.log.entries reads.order)

  whole : length (passed a.1) ≡ length a.1.log.entries
  whole = ap (λ (l : List Edit). length l) (take_all (end_of a.1.last) a.1.log.entries (omega (arith, all.1)))

  reached : length (passed b.1) ≡ end_of b.1.last
  reached = length-take-le (end_of b.1.last) b.1.log.entries reads.fits.within

  added : length (passed a.1) + length front.0 ≡ length (passed b.1)
  added = sym (length-append (passed a.1) front.0) ∙ ap (λ (l : List Edit). length l) front.1

  pub seen_all_stays : HasSeenAll b
  seen_all_stays = (
    ap (λ (l : Published). l.sealed) same_log ∙ all.0,
    omega (arith, reached, added, whole, ap (λ (l : Published). length l.entries) same_log, reads.fits.within),
  )

all_stay : (is : List Input) (xs ys : List (ℕ × Seeing)) → AllRead is xs ys → All HasSeenAll xs → All HasSeenAll ys
all_stay is [] [] all seen = seen
all_stay is [] (b ∷ ys) all seen = absurd all
all_stay is (a ∷ xs) [] all seen = absurd all
all_stay is (a ∷ xs) (b ∷ ys) all seen =
    All-cons HasSeenAll b ys (seen_all_stays is a b all.0 (All-head HasSeenAll a xs seen)) (all_stay is xs ys all.1 (All-tail HasSeenAll a xs seen))

read_taken : (is : List Input) (n : ℕ) (xs ys : List (ℕ × Seeing)) → AllRead is xs ys → AllRead is (take n xs) (take n ys)
read_taken is n [] [] all = subst (λ (l : List (ℕ × Seeing)). AllRead is l l) (sym (take_all n [] (omega arith))) tt
read_taken is n [] (b ∷ ys) all = absurd all
read_taken is n (a ∷ xs) [] all = absurd all
read_taken is zero (a ∷ xs) (b ∷ ys) all = tt
read_taken is (suc n) (a ∷ xs) (b ∷ ys) all = (all.0, read_taken is n xs ys all.1)

-- one reader more
seen_more : (ys : List (ℕ × Seeing)) (n : ℕ) → All HasSeenAll (take n ys) → IfSome (slice_get ys n) HasSeenAll → All HasSeenAll (take (n + 1) ys)
seen_more ys n seen here = elim (slice_get_cases ys n).1 [
  | inl there ↦
      let y : ℕ × Seeing = there.0 in
      let last : HasSeenAll y = subst (λ (o : Option (ℕ × Seeing)). IfSome o HasSeenAll) there.2 here in
      subst (λ (l : List (ℕ × Seeing)). All HasSeenAll l) (sym (take_more ys n y there.1))
      (All-append HasSeenAll (take n ys) (get_or ys n y ∷ []) seen
      (All-cons HasSeenAll (get_or ys n y) [] (subst (λ (v : ℕ × Seeing). HasSeenAll v) (sym there.3) last) (All-nil HasSeenAll)))
  | inr past ↦ subst (λ (l : List (ℕ × Seeing)). All HasSeenAll l) (take_all n ys past.0 ∙ sym (take_all (n + 1) ys (omega (arith, past.0)))) seen
]

pub none_sealed : (xs : List (ℕ × Seeing)) → All HasSeenAll (take 0 xs)
none_sealed [] = All-nil HasSeenAll
none_sealed (a ∷ xs) = All-nil HasSeenAll

pub sealed_more : (is : List Input) (xs ys : List (ℕ × Seeing)) (place : ℕ) → AllRead is xs ys → All HasSeenAll (take place xs) → IfSome (slice_get ys place) HasSeenAll → All HasSeenAll (take (place + 1) ys)
sealed_more is xs ys place all seen here = seen_more ys place (all_stay is (take place xs) (take place ys) (read_taken is place xs ys all) seen) here

pub all_sealed : (xs : List (ℕ × Seeing)) (place : ℕ) → length xs ≤ place → All HasSeenAll (take place xs) → All HasSeenAll xs
all_sealed xs place le seen = subst (λ (l : List (ℕ × Seeing)). All HasSeenAll l) (take_all place xs le) seen
