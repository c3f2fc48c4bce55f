-- Parts that are asked for one by one.
use Rattle.std.proofs.Common.{◌≡◌, ℕ, ◌+◌, ◌<◌, List, [], ◌∷◌, ◌++◌, length, map, take, replicate, Ok, Err, IsErrOf, refl, sym, ap, subst, ◌∙◌, arith}
use Rattle.std.specs.List.{AllZip, range_with_len, slice_index_or}
use Rattle.std.proofs.lemmas.List.{replicate_more, take-map, map_more}
use Rattle.std.proofs.lemmas.List.FromFn.{take-map-range_with_len, map-range_with_len_more}
use Rattle.gate_outside.specs.declared.asked.Asked.{Asked}
use Rattle.gate_outside.specs.declared.asked.Asked.TheVariants as asked
use Rattle.gate_outside.specs.declared.faults.Fault.{Fault}
use Rattle.gate_outside.specs.declared.faults.Fault.TheVariants.{Failed, Memory}
use Rattle.gate_outside.specs.Causes.{FaultHasCause}
use Rattle.gate_outside.specs.Houses.{HouseTale, KeepsParts}
use Rattle.gate_outside.specs.Told.{GrowsBy, ListsAsk}
use Rattle.house_loans.specs.Loans.{GrowsByAll, AsksInOrder}
use Rattle.house_loans.specs.Clocks.{AsksClocks}
use Rattle.house_loans.proofs.Growing.{grows_none, grows_one, keeps_none, keeps_on}

-- the first so many of these were asked for, and given
pub record HasLent (all : List Asked) (given : ℕ) (old now : HouseTale) : Type 0 where
  pub asks : GrowsByAll old.asks now.asks (take given all)
  pub parts : KeepsParts old now

pub lent_none : (all : List Asked) (h : HouseTale) → HasLent all 0 h h
lent_none all h = record { asks = grows_none h.asks; parts = keeps_none h }

pub lent_all : (all : List Asked) (given : ℕ) (a b : HouseTale) → HasLent all given a b → given ≡ length all → AsksInOrder all given a b (Ok (tt {0}))
lent_all all given a b lent each = record { each = each; fewer = tt; asks = lent.asks; parts = lent.parts }

module _ (all : List Asked) (given : ℕ) (a b c : HouseTale) (x : Asked) (lent : HasLent all given a b) (next : take (given + 1) all ≡ take given all ++ x ∷ []) (parts : KeepsParts b c) where
  one_asked : GrowsBy b.asks c.asks x → GrowsByAll a.asks c.asks (take (given + 1) all)
  one_asked one = subst (λ more. GrowsByAll a.asks c.asks more) (sym next) (grows_one a.asks b.asks c.asks (take given all) x lent.asks one)

  -- one part more is given
  pub lent_one : GrowsBy b.asks c.asks x → HasLent all (given + 1) a c
  lent_one one = record { asks = one_asked one; parts = keeps_on a b c lent.parts parts }

  -- one is not given
  pub lent_fewer : (T : Type 0) → given < length all → (fault : Fault) → ListsAsk {T = T} b.asks c.asks x (Err fault) → AsksInOrder {T = Unit {0}} all given a c (Err fault)
  lent_fewer T fewer Failed one = record { each = tt; fewer = fewer; asks = one_asked one; parts = keeps_on a b c lent.parts parts }
  lent_fewer T fewer Memory one = record {
    each = tt;
    fewer = fewer;
    asks = subst (λ asks. GrowsByAll a.asks asks (take given all)) (sym one) lent.asks;
    parts = keeps_on a b c lent.parts parts;
  }

-- ---- what is asked for next

pub next_mapped : {X Y : Type 0} (f : X → Y) (xs : List X) (i : ℕ) (x : X) → i < length xs → x ≡ slice_index_or xs i x → take (i + 1) (map f xs) ≡ take i (map f xs) ++ f x ∷ []
next_mapped f xs i x within is =
    take-map f (i + 1) xs ∙ map_more f xs i x within ∙ ap (λ y. map f (take i xs) ++ f y ∷ []) (sym is) ∙ ap (λ l. l ++ f x ∷ []) (sym (take-map f i xs))

pub next_in_range : {X : Type 0} (f : ℕ → X) (first count i : ℕ) → i < count → take (i + 1) (map f (range_with_len first count)) ≡ take i (map f (range_with_len first count)) ++ f (first + i) ∷ []
next_in_range f first count i within =
    take-map-range_with_len f first count (i + 1) (omega (arith, within)) ∙ map-range_with_len_more f first i (first + i) refl
    ∙ ap (λ l. l ++ f (first + i) ∷ []) (sym (take-map-range_with_len f first count i (omega (arith, within))))

-- ---- places

pub zip_one : {A B : Type 0} (R : A → B → Type 0) (xs : List A) (ys : List B) (x : A) (y : B) → AllZip R xs ys → R x y → AllZip R (xs ++ x ∷ []) (ys ++ y ∷ [])
zip_one R [] [] x y all one = (one, tt)
zip_one R [] (b ∷ ys) x y all one = absurd all
zip_one R (a ∷ xs) [] x y all one = absurd all
zip_one R (a ∷ xs) (b ∷ ys) x y all one = (all.0, zip_one R xs ys x y all.1 one)

-- ---- counts

-- the cause of an answer that is no value, where the count was still as at first
module _ (T U : Type 0) (fault : Fault) where
  same_fault : (f : Fault) → IsErrOf {T = U} (Err fault) f → IsErrOf {T = T} (Err fault) f
  same_fault f is = cc

  pub caused : (a b c : ℕ) → b ≡ a → FaultHasCause {T = T} b c (Err fault) → FaultHasCause {T = U} a c (Err fault)
  caused a b c same cause = rw (sym same) (record {
    later = cause.later;
    failed = λ is. cause.failed (same_fault Failed is);
    memory = λ is. cause.memory (same_fault Memory is);
    ok = tt;
  })

-- ---- clocks

pub clocks_none : (h : HouseTale) → AsksClocks 0 h h
clocks_none h = record {
  asks = grows_none h.asks;
  source_faults = refl;
  door_faults = refl;
  parts = keeps_none h;
}

module _ (n : ℕ) (a b c : HouseTale) (before : AsksClocks n a b) (source_faults : c.source_faults ≡ b.source_faults) (door_faults : c.door_faults ≡ b.door_faults) (parts : KeepsParts b c) where
  -- one clock more
  pub clocks_one : GrowsBy b.asks c.asks asked.Clock → AsksClocks (n + 1) a c
  clocks_one one = record {
    asks = subst (λ more. GrowsByAll a.asks c.asks more) (replicate_more n asked.Clock) (grows_one a.asks b.asks c.asks (replicate n asked.Clock) asked.Clock before.asks one);
    source_faults = source_faults ∙ before.source_faults;
    door_faults = door_faults ∙ before.door_faults;
    parts = keeps_on a b c before.parts parts;
  }

  -- none, for want of memory
  pub clocks_refused : c.asks ≡ b.asks → AsksClocks n a c
  clocks_refused same = record {
    asks = subst (λ asks. GrowsByAll a.asks asks (replicate n asked.Clock)) (sym same) before.asks;
    source_faults = source_faults ∙ before.source_faults;
    door_faults = door_faults ∙ before.door_faults;
    parts = keeps_on a b c before.parts parts;
  }
