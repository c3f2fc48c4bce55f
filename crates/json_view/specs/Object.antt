-- An object of given fields.
use Rattle.std.specs.Prelude.{◌≡◌, ℕ, Bool, true, false, not, ◌&&◌, ◌||◌, List, [], ◌∷◌, String, string_bytes}
use Rattle.std.specs.Str.{bytes_eq}
use Rattle.std.specs.Ordering.{nat_cmp}
use Rattle.std.specs.declared.cmp.Ordering.TheVariants.{Less}
use Rattle.std.specs.Cmp.Lexicographic.{slice_cmp}
use Rattle.std.specs.declared.alloc.Global.{Global}
use Rattle.serde_json.specs.Data.{Members, no_members, member, put}
use Rattle.serde_json.specs.declared.value.Value.{Value}
use Rattle.serde_json.specs.View.{view}

abbrev pub has_key : List ℕ → List (String Global × Value) → Bool
has_key name [] = false
has_key name (f ∷ fs) = bytes_eq name (string_bytes f.0) || has_key name fs

-- whether no key stands twice
abbrev pub distinct_keys : List (String Global × Value) → Bool
distinct_keys [] = true
distinct_keys (f ∷ fs) = not (has_key (string_bytes f.0) fs) && distinct_keys fs

-- the members, with each of these fields put in its place among them
abbrev pub with_fields : Members → List (String Global × Value) → Members
with_fields ms [] = ms
with_fields ms (f ∷ fs) = with_fields (put (string_bytes f.0) (view f.1) ms) fs

-- the object of these fields
abbrev pub members_from : List (String Global × Value) → Members
members_from fields = with_fields no_members fields

abbrev pub IsBelowAll : List ℕ → Members → Type 0
IsBelowAll name no_members = Unit {0}
IsBelowAll name (member k d ms) = (slice_cmp nat_cmp name k ≡ Less) × IsBelowAll name ms

-- each key is below those after it, byte by byte
abbrev pub KeysAscend : Members → Type 0
KeysAscend no_members = Unit {0}
KeysAscend (member k d ms) = IsBelowAll k ms × KeysAscend ms
