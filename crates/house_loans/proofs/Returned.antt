-- Parts that are put back one by one.
use Rattle.std.proofs.Common.{◌≡◌, List, [], ◌∷◌, ◌++◌, map, refl, sym, ap, subst, ◌∙◌, append_assoc, append-nil}
use Rattle.std.specs.List.{sum}
use Rattle.std.proofs.lemmas.List.{map-append}
use Rattle.std.proofs.lemmas.List.Sums.{sum_by_push}
use Rattle.gate_outside.specs.Clocks.{ClockTale}
use Rattle.gate_outside.specs.Houses.{HouseTale, ReturnedSource, ReturnedDoor, CountsFaults, PutsSource, PutsDoor, PutsClock}
use Rattle.house_loans.specs.Sources.{PutsSources, source_counts}
use Rattle.house_loans.specs.Doors.{PutsDoors, door_counts}
use Rattle.house_loans.specs.Clocks.{PutsClocks}
use Rattle.house_loans.proofs.Growing.{grows_none, grows_one, counts_none, counts_one}

-- the first of all these parts were put back, and the others are left
pub record Returns {X B : Type 0} (Puts : List B → HouseTale → HouseTale → Type 0) (tale_of : X → B) (all left : List X) (old now : HouseTale) : Type 0 where
  pub back : List X
  pub parts : back ++ left ≡ all
  pub puts : Puts (map tale_of back) old now

module _ {X B : Type 0} (Puts : List B → HouseTale → HouseTale → Type 0) (tale_of : X → B) (all : List X) (old : HouseTale) where
  returned_none : (left : List X) → left ≡ all → Puts [] old old → Returns Puts tale_of all left old old
  returned_none left same none = record { back = []; parts = same; puts = none }

  returned_one : (x : X) (left : List X) (now : HouseTale) → Returns Puts tale_of all (x ∷ left) old now → (next : HouseTale)
      → ((back : List B) → Puts back old now → Puts (back ++ tale_of x ∷ []) old next) → Returns Puts tale_of all left old next
  returned_one x left now before next one = record {
    back = before.back ++ x ∷ [];
    parts = append_assoc before.back (x ∷ []) left ∙ before.parts;
    puts = subst (λ tales. Puts tales old next) (sym (map-append tale_of before.back (x ∷ []))) (one (map tale_of before.back) before.puts);
  }

  returned_all : (left : List X) (now : HouseTale) → left ≡ [] → Returns Puts tale_of all left old now → Puts (map tale_of all) old now
  returned_all left now none before =
      let back : before.back ≡ all = sym (append-nil before.back) ∙ (ap (λ l. before.back ++ l) (sym none) ∙ before.parts) in
      subst (λ l. Puts (map tale_of l) old now) back before.puts

-- ---- sources

abbrev pub ReturnsSources : {S : Type 0} → (S → ReturnedSource) → (all left : List S) → (old now : HouseTale) → Type 0
ReturnsSources tale_of all left old now = Returns PutsSources tale_of all left old now

source_back : (back : List ReturnedSource) (s : ReturnedSource) (a b c : HouseTale) → PutsSources back a b → PutsSource b c s → PutsSources (back ++ s ∷ []) a c
source_back back s a b c all one = record {
  sources = grows_one a.sources b.sources c.sources back s all.sources one.sources;
  count = subst (λ n. CountsFaults a.source_faults c.source_faults n)
      (sym (ap sum (map-append (λ s. s.faults) back (s ∷ [])) ∙ sum_by_push (λ n. n) (source_counts back) s.faults))
      (counts_one a.source_faults b.source_faults c.source_faults (sum (source_counts back)) s.faults all.count one.count);
  contents = one.contents ∙ all.contents;
  asks = one.asks ∙ all.asks;
  doors = one.doors ∙ all.doors;
  clocks = one.clocks ∙ all.clocks;
  door_faults = one.door_faults ∙ all.door_faults;
}

module _ {S : Type 0} (tale_of : S → ReturnedSource) (all : List S) (old : HouseTale) where
  pub sources_none : (left : List S) → left ≡ all → ReturnsSources tale_of all left old old
  sources_none left same = returned_none PutsSources tale_of all old left same (record {
    sources = grows_none old.sources;
    count = counts_none old.source_faults;
    contents = refl;
    asks = refl;
    doors = refl;
    clocks = refl;
    door_faults = refl;
  })

  pub sources_one : (s : S) (left : List S) (now next : HouseTale) → ReturnsSources tale_of all (s ∷ left) old now → PutsSource now next (tale_of s) → ReturnsSources tale_of all left old next
  sources_one s left now next before one = returned_one PutsSources tale_of all old s left now before next (λ back puts. source_back back (tale_of s) old now next puts one)

  pub sources_all : (left : List S) (now : HouseTale) → left ≡ [] → ReturnsSources tale_of all left old now → PutsSources (map tale_of all) old now
  sources_all left now none before = returned_all PutsSources tale_of all old left now none before

-- ---- doors

abbrev pub ReturnsDoors : {D : Type 0} → (D → ReturnedDoor) → (all left : List D) → (old now : HouseTale) → Type 0
ReturnsDoors tale_of all left old now = Returns PutsDoors tale_of all left old now

door_back : (back : List ReturnedDoor) (d : ReturnedDoor) (a b c : HouseTale) → PutsDoors back a b → PutsDoor b c d → PutsDoors (back ++ d ∷ []) a c
door_back back d a b c all one = record {
  doors = grows_one a.doors b.doors c.doors back d all.doors one.doors;
  count = subst (λ n. CountsFaults a.door_faults c.door_faults n)
      (sym (ap sum (map-append (λ d. d.faults) back (d ∷ [])) ∙ sum_by_push (λ n. n) (door_counts back) d.faults))
      (counts_one a.door_faults b.door_faults c.door_faults (sum (door_counts back)) d.faults all.count one.count);
  contents = one.contents ∙ all.contents;
  asks = one.asks ∙ all.asks;
  sources = one.sources ∙ all.sources;
  clocks = one.clocks ∙ all.clocks;
  source_faults = one.source_faults ∙ all.source_faults;
}

module _ {D : Type 0} (tale_of : D → ReturnedDoor) (all : List D) (old : HouseTale) where
  pub doors_none : (left : List D) → left ≡ all → ReturnsDoors tale_of all left old old
  doors_none left same = returned_none PutsDoors tale_of all old left same (record {
    doors = grows_none old.doors;
    count = counts_none old.door_faults;
    contents = refl;
    asks = refl;
    sources = refl;
    clocks = refl;
    source_faults = refl;
  })

  pub doors_one : (d : D) (left : List D) (now next : HouseTale) → ReturnsDoors tale_of all (d ∷ left) old now → PutsDoor now next (tale_of d) → ReturnsDoors tale_of all left old next
  doors_one d left now next before one = returned_one PutsDoors tale_of all old d left now before next (λ back puts. door_back back (tale_of d) old now next puts one)

  pub doors_all : (left : List D) (now : HouseTale) → left ≡ [] → ReturnsDoors tale_of all left old now → PutsDoors (map tale_of all) old now
  doors_all left now none before = returned_all PutsDoors tale_of all old left now none before

-- ---- clocks

abbrev pub ReturnsClocks : {C : Type 0} → (C → ClockTale) → (all left : List C) → (old now : HouseTale) → Type 0
ReturnsClocks tale_of all left old now = Returns PutsClocks tale_of all left old now

pub clocks_back_none : (h : HouseTale) → PutsClocks [] h h
clocks_back_none h = record {
  clocks = grows_none h.clocks;
  contents = refl;
  asks = refl;
  sources = refl;
  doors = refl;
  source_faults = refl;
  door_faults = refl;
}

clock_back : (back : List ClockTale) (clock : ClockTale) (a b c : HouseTale) → PutsClocks back a b → PutsClock b c clock → PutsClocks (back ++ clock ∷ []) a c
clock_back back clock a b c all one = record {
  clocks = grows_one a.clocks b.clocks c.clocks back clock all.clocks one.clocks;
  contents = one.contents ∙ all.contents;
  asks = one.asks ∙ all.asks;
  sources = one.sources ∙ all.sources;
  doors = one.doors ∙ all.doors;
  source_faults = one.source_faults ∙ all.source_faults;
  door_faults = one.door_faults ∙ all.door_faults;
}

module _ {C : Type 0} (tale_of : C → ClockTale) (all : List C) (old : HouseTale) where
  pub clocks_back : (left : List C) → left ≡ all → ReturnsClocks tale_of all left old old
  clocks_back left same = returned_none PutsClocks tale_of all old left same (clocks_back_none old)

  pub clocks_back_one : (clock : C) (left : List C) (now next : HouseTale) → ReturnsClocks tale_of all (clock ∷ left) old now → PutsClock now next (tale_of clock) → ReturnsClocks tale_of all left old next
  clocks_back_one clock left now next before one = returned_one PutsClocks tale_of all old clock left now before next (λ back puts. clock_back back (tale_of clock) old now next puts one)

  pub clocks_back_all : (left : List C) (now : HouseTale) → left ≡ [] → ReturnsClocks tale_of all left old now → PutsClocks (map tale_of all) old now
  clocks_back_all left now none before = returned_all PutsClocks tale_of all old left now none before
