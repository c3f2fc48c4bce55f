-- The members that an object is made of.
use Rattle.std.proofs.Common.{◌≡◌, ℕ, List, [], ◌∷◌, ◌++◌, Bool, true, false, ◌||◌, refl, ◌∙◌, ap, true≢false, String, Global, Result, Ok, Err, IfOk, string_bytes, Ordering, Less, Equal, Greater, nat_cmp}
use Rattle.std.specs.Prelude.{All}
use Rattle.std.specs.declared.alloc.AllocError.{AllocError}
use Rattle.std.specs.Cmp.Lexicographic.{slice_cmp}
use Rattle.std.specs.Ordering.{match_ordering, ordering_reverse}
use Rattle.std.proofs.lemmas.Cmp.{nat_list_cmp_total}
use Rattle.std.proofs.lemmas.List.Elements.{All-head, All-tail}
use Rattle.serde_json.specs.Data.{Data, object, Members, no_members, member, put}
use Rattle.serde_json.specs.declared.value.Value.{Value}
use Rattle.serde_json.specs.View.{view}
use Rattle.serde_json.specs.Written.{has_float, members_have_float, compact_text}
use Rattle.json_view.specs.Object.{with_fields, members_from, IsBelowAll, KeysAscend}

abbrev pub Field : Type 0
Field = String Global × Value

pub with_last : (ms : Members) (fs : List Field) (name : String Global) (value : Value) → with_fields ms (fs ++ (name, value) ∷ []) ≡ put (string_bytes name) (view value) (with_fields ms fs)
with_last ms [] name value = refl
with_last ms (f ∷ fs) name value = with_last (put (string_bytes f.0) (view f.1) ms) fs name value

-- ---- no floats

either_false : (a b : Bool) → a ≡ false → b ≡ false → (a || b) ≡ false
either_false a b e h = rw (e, h) refl

first_false : (a b : Bool) → (a || b) ≡ false → a ≡ false
first_false true b h = h
first_false false b h = refl

second_false : (a b : Bool) → (a || b) ≡ false → b ≡ false
second_false true b h = absurd (true≢false h)
second_false false b h = h

no_float_at : (o : Ordering) (k l : List ℕ) (d e : Data) (ms : Members) → has_float d ≡ false → members_have_float (member l e ms) ≡ false → members_have_float (put k d ms) ≡ false
    → members_have_float (match_ordering o (member k d (member l e ms)) (member l d ms) (member l e (put k d ms))) ≡ false
no_float_at Less k l d e ms h g p = either_false (has_float d) (members_have_float (member l e ms)) h g
no_float_at Equal k l d e ms h g p = either_false (has_float d) (members_have_float ms) h (second_false (has_float e) (members_have_float ms) g)
no_float_at Greater k l d e ms h g p = either_false (has_float e) (members_have_float (put k d ms)) (first_false (has_float e) (members_have_float ms) g) p

no_float_put : (k : List ℕ) (d : Data) (ms : Members) → has_float d ≡ false → members_have_float ms ≡ false → members_have_float (put k d ms) ≡ false
no_float_put k d no_members h g = either_false (has_float d) false h refl
no_float_put k d (member l e ms) h g =
    no_float_at (slice_cmp nat_cmp k l) k l d e ms h g (no_float_put k d ms h (second_false (has_float e) (members_have_float ms) g))

no_float_with : (ms : Members) (fs : List Field) → members_have_float ms ≡ false → All (λ f. has_float (view f.1) ≡ false) fs → members_have_float (with_fields ms fs) ≡ false
no_float_with ms [] g h = g
no_float_with ms (f ∷ fs) g h =
    no_float_with (put (string_bytes f.0) (view f.1) ms) fs (no_float_put (string_bytes f.0) (view f.1) ms (All-head (λ x. has_float (view x.1) ≡ false) f fs h) g) (All-tail (λ x. has_float (view x.1) ≡ false) f fs h)

pub no_float_from : (fs : List Field) → All (λ f. has_float (view f.1) ≡ false) fs → has_float (object (members_from fs)) ≡ false
no_float_from fs h = no_float_with no_members fs refl h

-- the text of a value that is these members
pub text_from : (r : Result (String Global) AllocError) (d : Data) (fs : List Field) → All (λ f. has_float (view f.1) ≡ false) fs → d ≡ object (members_from fs)
    → IfOk r (λ s. has_float d ≡ false → string_bytes s ≡ compact_text d) → IfOk r (λ s. string_bytes s ≡ compact_text (object (members_from fs)))
text_from (Ok s) d fs h e t = t (ap has_float e ∙ no_float_from fs h) ∙ ap compact_text e
text_from (Err x) d fs h e t = tt

-- ---- keys in order

below_further : (k l : List ℕ) (ms : Members) → slice_cmp nat_cmp k l ≡ Less → IsBelowAll l ms → IsBelowAll k ms
below_further k l no_members h g = tt
below_further k l (member x d ms) h g = (nat_list_cmp_total.trans k l x h g.0, below_further k l ms h g.1)

greater_is_above : (k l : List ℕ) → slice_cmp nat_cmp k l ≡ Greater → slice_cmp nat_cmp l k ≡ Less
greater_is_above k l h = nat_list_cmp_total.antisymm l k ∙ ap ordering_reverse h

below_put_at : (o : Ordering) (x k l : List ℕ) (d e : Data) (ms : Members) → slice_cmp nat_cmp x k ≡ Less → IsBelowAll x (member l e ms) → IsBelowAll x (put k d ms)
    → IsBelowAll x (match_ordering o (member k d (member l e ms)) (member l d ms) (member l e (put k d ms)))
below_put_at Less x k l d e ms h g p = (h, g)
below_put_at Equal x k l d e ms h g p = g
below_put_at Greater x k l d e ms h g p = (g.0, p)

below_put : (x k : List ℕ) (d : Data) (ms : Members) → slice_cmp nat_cmp x k ≡ Less → IsBelowAll x ms → IsBelowAll x (put k d ms)
below_put x k d no_members h g = (h, tt)
below_put x k d (member l e ms) h g = below_put_at (slice_cmp nat_cmp k l) x k l d e ms h g (below_put x k d ms h g.1)

ascend_put_at : (o : Ordering) (k l : List ℕ) (d e : Data) (ms : Members) → slice_cmp nat_cmp k l ≡ o → KeysAscend (member l e ms) → KeysAscend (put k d ms)
    → KeysAscend (match_ordering o (member k d (member l e ms)) (member l d ms) (member l e (put k d ms)))
ascend_put_at Less k l d e ms is g p = ((is, below_further k l ms is g.0), g)
ascend_put_at Equal k l d e ms is g p = g
ascend_put_at Greater k l d e ms is g p = (below_put l k d ms (greater_is_above k l is) g.0, p)

ascend_put : (k : List ℕ) (d : Data) (ms : Members) → KeysAscend ms → KeysAscend (put k d ms)
ascend_put k d no_members g = (tt, tt)
ascend_put k d (member l e ms) g = ascend_put_at _ k l d e ms refl g (ascend_put k d ms g.1)

ascend_with : (ms : Members) (fs : List Field) → KeysAscend ms → KeysAscend (with_fields ms fs)
ascend_with ms [] g = g
ascend_with ms (f ∷ fs) g = ascend_with (put (string_bytes f.0) (view f.1) ms) fs (ascend_put (string_bytes f.0) (view f.1) ms g)

pub ascend_from : (fs : List Field) → KeysAscend (members_from fs)
ascend_from fs = ascend_with no_members fs tt
