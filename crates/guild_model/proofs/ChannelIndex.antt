-- An ordered set of pairs as what it says of the channels of messages.
use Rattle.std.proofs.Common.{◌≡◌, ◌≢◌, ℕ, Bool, true, false, not, ◌&&◌, ◌||◌, List, [], ◌∷◌, refl, sym, ◌∙◌, subst, arith}
use Rattle.std.specs.Prelude.{◌==◌, cond}
use Rattle.std.proofs.Common.{Ordering}
use Rattle.std.specs.Ordering.{nat_cmp, ordering_then, is_eq, is_gt}
use Rattle.std.specs.List.{list_any, slice_get}
use Rattle.std.specs.Option.{IfSome}
use Rattle.std.specs.BTreeMap.{is_at}
use Rattle.std.specs.BTreeMap.Range.{IsLeBy}
use Rattle.std.specs.BTreeSet.{BTreeSet, contains, IsKeyInRange, IsKeyRangeOf}
use Rattle.std.specs.declared.ops.Bound.TheVariants.{Included, Unbounded}
use Rattle.std.proofs.lemmas.Bool.Decides.{nat_tests}
use Rattle.guild_model.specs.ChannelIndex.{is_indexed, Joins, Leaves, IsBare}

abbrev pub Pair : Type 0
Pair = ℕ × ℕ

-- the order of pairs
abbrev pub order : Pair → Pair → Ordering
order x y = ordering_then (nat_cmp x.0 y.0) (nat_cmp x.1 y.1)

at_pair : (x y : Pair) → is_eq (order x y) ≡ (y.0 == x.0 && y.1 == x.1)
at_pair x y = grind (arith, nat_tests)

at_other : (x y : Pair) → is_eq (order x y) ≡ (x.0 == y.0 && x.1 == y.1)
at_other x y = grind (arith, nat_tests)

says : (ps : List Pair) (p i : ℕ) → list_any (is_at (order (p, i))) ps ≡ is_indexed ps p i
says [] p i = refl
says (x ∷ ps) p i = rw (at_pair (p, i) x, says ps p i) refl

by_or : (b c : Bool) → cond b true c ≡ (b || c)
by_or true c = refl
by_or false c = refl

by_and : (b c : Bool) → cond b false c ≡ (not b && c)
by_and true c = refl
by_and false c = refl

pub joins : (s t : BTreeSet Pair) (channel id : ℕ) → ((q : Pair) → contains order t q ≡ cond (is_at (order (channel, id)) q) true (contains order s q)) → Joins s.keys channel id t.keys
joins s t channel id h p i = sym (says t.keys p i) ∙ (h (p, i) ∙ (by_or (is_at (order (channel, id)) (p, i)) (contains order s (p, i)) ∙ rw (at_other (channel, id) (p, i), says s.keys p i) refl))

pub leaves : (s t : BTreeSet Pair) (channel id : ℕ) → ((q : Pair) → contains order t q ≡ cond (is_at (order (channel, id)) q) false (contains order s q)) → Leaves s.keys channel id t.keys
leaves s t channel id h p i = sym (says t.keys p i) ∙ (h (p, i) ∙ (by_and (is_at (order (channel, id)) (p, i)) (contains order s (p, i)) ∙ rw (at_other (channel, id) (p, i), says s.keys p i) refl))

-- ---- the pairs from the least of a channel on

from_least : (channel id : ℕ) → is_gt (order (channel, 0) (channel, id)) ≡ false
from_least channel id = grind (arith, nat_tests)

other_channel : (channel id : ℕ) (x : Pair) → is_gt (order (channel, 0) x) ≡ false → is_gt (order x (channel, id)) ≡ false → x.0 ≡ channel
other_channel channel id x above below = grind (arith, nat_tests)

abbrev Since : ℕ → BTreeSet Pair → List Pair → Type 0
Since channel s r = IsKeyRangeOf order (Included (channel, 0)) Unbounded s r

first_of : (s : BTreeSet Pair) (channel : ℕ) (x : Pair) (r rest : List Pair) → Since channel s r → r ≡ x ∷ rest → IsKeyInRange order (Included (channel, 0)) Unbounded s x
first_of s channel x r rest h is = subst (λ (l : List Pair). IfSome (slice_get l 0) (IsKeyInRange order (Included (channel, 0)) Unbounded s)) is h.1

pub first_there : (s : BTreeSet Pair) (channel : ℕ) (x : Pair) (r rest : List Pair) → Since channel s r → r ≡ x ∷ rest → is_indexed s.keys x.0 x.1 ≡ true
first_there s channel x r rest h is = sym (says s.keys x.0 x.1) ∙ (first_of s channel x r rest h is).1

pub others_only : (s : BTreeSet Pair) (channel : ℕ) (x : Pair) (r rest : List Pair) → Since channel s r → r ≡ x ∷ rest → x.0 ≢ channel → IsBare s.keys channel
others_only s channel x r rest h is other id = by_test (is_indexed s.keys channel id) refl
  where
    by_test : (b : Bool) → is_indexed s.keys channel id ≡ b → b ≡ false
    by_test false so = refl
    by_test true so =
        let there : contains order s (channel, id) ≡ true = says s.keys channel id ∙ so in
        let above : is_gt (order (channel, 0) x) ≡ false = (first_of s channel x r rest h is).0.0 in
        let below : is_gt (order x (channel, id)) ≡ false =
        subst (λ (l : List Pair). IfSome (slice_get l 0) (λ (k : Pair). IsLeBy order k (channel, id))) is (h.2 (channel, id) (from_least channel id, tt) there) in
        let same : x.0 ≡ channel = other_channel channel id x above below in
        absurd (other same)

pub none_at_all : (s : BTreeSet Pair) (channel : ℕ) (r : List Pair) → Since channel s r → r ≡ [] → IsBare s.keys channel
none_at_all s channel r h is id = sym (says s.keys channel id) ∙ h.5 is (channel, id) (from_least channel id, tt)
