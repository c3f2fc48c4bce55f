-- A loop that changes the elements of a list one by one.
use Rattle.std.proofs.Common.{◌≡◌, ℕ, ◌+◌, ◌<◌, ◌≤◌, zero, suc, List, [], ◌∷◌, length, get_or, set, add-one, not-suc-le-zero, sym, ap, subst, refl, arith, Result, Ok, Err, OnErr}
use Rattle.std.specs.List.{AllZip}

-- as many elements at the front are related to what they were, and those behind them are what they were
abbrev pub Done : {X : Type 0} → (X → X → Type 0) → ℕ → List X → List X → Type 0
Done R zero xs ys = ys ≡ xs
Done R (suc n) [] [] = Unit {0}
Done R (suc n) [] (y ∷ ys) = ⊥
Done R (suc n) (x ∷ xs) [] = ⊥
Done R (suc n) (x ∷ xs) (y ∷ ys) = R x y × Done R n xs ys

module _ {X : Type 0} (R : X → X → Type 0) where
  -- the element whose turn it is, is what it was
  pub turn_of : (n : ℕ) (xs ys : List X) (d : X) → Done R n xs ys → get_or ys n d ≡ get_or xs n d
  turn_of zero xs ys d done = ap (λ l. get_or l 0 d) done
  turn_of (suc n) [] [] d done = refl
  turn_of (suc n) [] (y ∷ ys) d done = elim done [ ]
  turn_of (suc n) (x ∷ xs) [] d done = elim done [ ]
  turn_of (suc n) (x ∷ xs) (y ∷ ys) d done = turn_of n xs ys d done.1

  one_more : (n : ℕ) (xs ys : List X) (y d : X) → n < length xs → Done R n xs ys → R (get_or xs n d) y → Done R (suc n) xs (set ys n y)
  one_more n [] ys y d lt done r = absurd (not-suc-le-zero lt)
  one_more zero (x ∷ xs) ys y d lt done r = subst (λ l. Done R 1 (x ∷ xs) (set l 0 y)) (sym done) (r, refl)
  one_more (suc n) (x ∷ xs) [] y d lt done r = elim done [ ]
  one_more (suc n) (x ∷ xs) (z ∷ ys) y d lt done r = (done.0, one_more n xs ys y d (omega (arith, lt)) done.1 r)

  pub done_more : (n : ℕ) (xs ys : List X) (y d : X) → n < length xs → Done R n xs ys → R (get_or xs n d) y → Done R (n + 1) xs (set ys n y)
  done_more n xs ys y d lt done r = subst (λ k. Done R k xs (set ys n y)) (sym (add-one n)) (one_more n xs ys y d lt done r)

  pub done_all : (n : ℕ) (xs ys : List X) → length xs ≤ n → Done R n xs ys → AllZip R xs ys
  done_all zero [] ys le done = subst (AllZip R []) (sym done) tt
  done_all zero (x ∷ xs) ys le done = absurd (not-suc-le-zero le)
  done_all (suc n) [] [] le done = tt
  done_all (suc n) [] (y ∷ ys) le done = elim done [ ]
  done_all (suc n) (x ∷ xs) [] le done = elim done [ ]
  done_all (suc n) (x ∷ xs) (y ∷ ys) le done = (done.0, done_all n xs ys (omega (arith, le)) done.1)

  -- where each element is related to itself, also a part that is done will do
  pub done_part : ((x : X) → R x x) → (n : ℕ) (xs ys : List X) → Done R n xs ys → AllZip R xs ys
  done_part itself zero xs ys done = subst (AllZip R xs) (sym done) (all_themselves xs)
    where
      all_themselves : (xs : List X) → AllZip R xs xs
      all_themselves [] = tt
      all_themselves (x ∷ xs) = (itself x, all_themselves xs)
  done_part itself (suc n) [] [] done = tt
  done_part itself (suc n) [] (y ∷ ys) done = elim done [ ]
  done_part itself (suc n) (x ∷ xs) [] done = elim done [ ]
  done_part itself (suc n) (x ∷ xs) (y ∷ ys) done = (done.0, done_part itself n xs ys done.1)

pub done_weaker : {X : Type 0} (R Q : X → X → Type 0) → ((x y : X) → R x y → Q x y) → (n : ℕ) (xs ys : List X) → Done R n xs ys → Done Q n xs ys
done_weaker R Q weaker zero xs ys done = done
done_weaker R Q weaker (suc n) [] [] done = tt
done_weaker R Q weaker (suc n) [] (y ∷ ys) done = elim done [ ]
done_weaker R Q weaker (suc n) (x ∷ xs) [] done = elim done [ ]
done_weaker R Q weaker (suc n) (x ∷ xs) (y ∷ ys) done = (weaker x y done.0, done_weaker R Q weaker n xs ys done.1)

-- what the list is where a change failed at this turn
pub failed_at : {X : Type 0} (R Q : X → X → Type 0) → ((x : X) → Q x x) → ((x y : X) → R x y → Q x y) → (n : ℕ) (xs ys : List X) (y d : X) → n < length xs → Done R n xs ys → Q (get_or ys n d) y → AllZip Q xs (set ys n y)
failed_at R Q itself weaker n xs ys y d lt done q =
    done_part Q itself (n + 1) xs (set ys n y) (done_more Q n xs ys y d lt (done_weaker R Q weaker n xs ys done) (subst (λ x. Q x y) (turn_of R n xs ys d done) q))

pub on_err : {T E P : Type 0} (r : Result T E) → P → OnErr r P
on_err (Ok x) p = tt
on_err (Err e) p = p
