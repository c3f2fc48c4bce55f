-- Parts of several kinds that are asked for in order.
use Rattle.std.proofs.Common.{◌≡◌, ℕ, suc, ◌+◌, ◌<◌, ◌≤◌, List, [], ◌∷◌, ◌++◌, length, take, replicate, Result, Ok, Err, OnOk, OnErr, refl, sym, ap, ap₂, subst, ◌∙◌, append_assoc, arith}
use Rattle.std.proofs.lemmas.List.{length-append, length-replicate, take_all, take-append-le, take-replicate}
use Rattle.std.specs.declared.option.Option.{Option}
use Rattle.std.specs.declared.option.Option.TheVariants.{Some, None}
use Rattle.gate_outside.specs.declared.asked.Asked.{Asked}
use Rattle.gate_outside.specs.declared.asked.Asked.TheVariants as asked
use Rattle.gate_outside.specs.declared.faults.Fault.{Fault}
use Rattle.gate_outside.specs.declared.faults.Fault.TheVariants.{Failed, Memory}
use Rattle.gate_outside.specs.Houses.{HouseTale}
use Rattle.house_loans.specs.Loans.{GrowsByAll, AsksInOrder, asked_for}
use Rattle.house_loans.specs.Clocks.{AsksClocks}
use Rattle.house_loans.proofs.Growing.{keeps_on}

abbrev pub U : Type 0
U = Unit {0}

grows_on : {A : Type 0} (a b c : Option (List A)) (xs ys : List A) → GrowsByAll a b xs → GrowsByAll b c ys → GrowsByAll a c (xs ++ ys)
grows_on None None c xs ys one two = two
grows_on None (Some b) c xs ys one two = absurd cc
grows_on (Some a) None c xs ys one two = absurd one
grows_on (Some a) (Some b) None xs ys one two = absurd two
grows_on (Some a) (Some b) (Some c) xs ys one two = two ∙ ap (λ l. l ++ ys) one ∙ append_assoc a xs ys

take_on : {A : Type 0} (xs ys : List A) (n : ℕ) → take (length xs + n) (xs ++ ys) ≡ xs ++ take n ys
take_on [] ys n =
    let none : 0 + n ≡ n = omega arith in
    ap (λ k. take k ys) none
take_on (x ∷ xs) ys n =
    let one : length (x ∷ xs) + n ≡ suc (length xs + n) = omega arith in
    ap (λ k. take k (x ∷ (xs ++ ys))) one ∙ ap (λ l. x ∷ l) (take_on xs ys n)

asked_on : (n m : ℕ) (r : Result U Fault) → asked_for (n + m) r ≡ n + asked_for m r
asked_on n m (Ok u) = refl
asked_on n m (Err Failed) = omega arith
asked_on n m (Err Memory) = refl

asked_within : (n : ℕ) (fault : Fault) (k : ℕ) → n < k → asked_for {T = U} n (Err fault) ≤ k
asked_within n Failed k less = omega (arith, less)
asked_within n Memory k less = omega (arith, less)

module _ (xs ys : List Asked) where
  -- where all of the first were given, so many of the others are
  pub asks_on : (n m : ℕ) (a b c : HouseTale) (r : Result U Fault) → AsksInOrder {T = U} xs n a b (Ok tt) → AsksInOrder {T = U} ys m b c r → AsksInOrder {T = U} (xs ++ ys) (n + m) a c r
  asks_on n m a b c r first second = record {
    each = each r second.each;
    fewer = fewer r second.fewer;
    asks = subst (λ l. GrowsByAll a.asks c.asks l) (sym parts) (grows_on a.asks b.asks c.asks xs (take (asked_for m r) ys) whole second.asks);
    parts = keeps_on a b c first.parts second.parts;
  }
    where
      each : (r : Result U Fault) → OnOk r (m ≡ length ys) → OnOk r (n + m ≡ length (xs ++ ys))
      each (Ok u) is = ap₂ (λ n m. n + m) first.each is ∙ sym (length-append xs ys)
      each (Err fault) is = tt

      fewer : (r : Result U Fault) → OnErr r (m < length ys) → OnErr r (n + m < length (xs ++ ys))
      fewer (Ok u) less = tt
      fewer (Err fault) less = omega (arith, less, first.each, length-append xs ys)

      whole : GrowsByAll a.asks b.asks xs
      whole = subst (λ l. GrowsByAll a.asks b.asks l) (take_all n xs (omega (arith, first.each))) first.asks

      parts : take (asked_for (n + m) r) (xs ++ ys) ≡ xs ++ take (asked_for m r) ys
      parts = ap (λ k. take k (xs ++ ys)) (asked_on n m r ∙ ap (λ n. n + asked_for m r) first.each) ∙ take_on xs ys (asked_for m r)

  -- where not all of the first were given, none of the others is asked for
  pub asks_end : (n : ℕ) (a b : HouseTale) (fault : Fault) → AsksInOrder {T = U} xs n a b (Err fault) → AsksInOrder {T = U} (xs ++ ys) n a b (Err fault)
  asks_end n a b fault first = record {
    each = tt;
    fewer = omega (arith, first.fewer, length-append xs ys);
    asks = subst (λ l. GrowsByAll a.asks b.asks l) (sym (take-append-le (asked_for {T = U} n (Err fault)) xs ys (asked_within n fault (length xs) first.fewer))) first.asks;
    parts = first.parts;
  }

-- ---- clocks

module _ (count n : ℕ) (a b : HouseTale) (asks : AsksClocks n a b) where
  clocks_asked : n ≤ count → GrowsByAll a.asks b.asks (take n (replicate count asked.Clock))
  clocks_asked within = subst (λ l. GrowsByAll a.asks b.asks l) (sym (take-replicate n count asked.Clock within)) asks.asks

  pub clocks_given : n ≡ count → AsksInOrder {T = U} (replicate count asked.Clock) n a b (Ok tt)
  clocks_given each = record {
    each = each ∙ sym (length-replicate count asked.Clock);
    fewer = tt;
    asks = clocks_asked (omega (arith, each));
    parts = asks.parts;
  }

  pub clocks_refused : n < count → AsksInOrder {T = U} (replicate count asked.Clock) n a b (Err Memory)
  clocks_refused less = record {
    each = tt;
    fewer = omega (arith, less, length-replicate count asked.Clock);
    asks = clocks_asked (omega (arith, less));
    parts = asks.parts;
  }
