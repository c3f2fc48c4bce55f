-- What bytes read as, where they are text and where they are not.
use Rattle.std.proofs.Common.{◌≡◌, ℕ, List, Bool, true, false, refl, None}
use Rattle.std.specs.Str.{IsUtf8, is_utf8}
use Rattle.std.proofs.lemmas.Str.{IsUtf8-from_is_utf8, is_utf8-from_IsUtf8}
use Rattle.serde_json.specs.Read.{read}
use Rattle.json_view.specs.Reading.{reading}

pub reading-IsUtf8 : (bs : List ℕ) → IsUtf8 bs → reading bs ≡ read bs
reading-IsUtf8 bs h = let e : is_utf8 bs ≡ true = is_utf8-from_IsUtf8 bs h in rw e refl

none_where : (bs : List ℕ) (b : Bool) → is_utf8 bs ≡ b → (IsUtf8 bs → read bs ≡ None) → reading bs ≡ None
none_where bs true e h = rw e (h (IsUtf8-from_is_utf8 bs e))
none_where bs false e h = rw e refl

pub reading-None : (bs : List ℕ) → (IsUtf8 bs → read bs ≡ None) → reading bs ≡ None
reading-None bs h = none_where bs (is_utf8 bs) refl h
