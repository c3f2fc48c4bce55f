-- Lists of values, and lists of ids as values.
use Rattle.std.proofs.Common.{◌≡◌, ℕ, List, [], ◌∷◌, map, length, false, Ok, refl}
use Rattle.json.specs.declared.value.Value.{Value}
use Rattle.json_view.specs.Nodes.{items_view}
use Rattle.std.specs.declared.alloc.Global.{Global}
use Rattle.serde_json.specs.Data.{items_depth}
use Rattle.serde_json.specs.Events.{items_len}
use Rattle.serde_json.specs.View.{items_of}
use Rattle.serde_json.specs.Written.{items_have_float}
use Rattle.snowflake_id.proofs.Texts.{id_of_decimal}
use Rattle.edit_fields.specs.Fields.{ids_from}
use Rattle.edit_fields.specs.Members.{id_data}
use Rattle.edit_fields.specs.Fits.{IdsFit}

pub items_view_len : (xs : List (Value Global)) → items_len (items_view xs) ≡ length xs
items_view_len [] = refl
items_view_len (x ∷ xs) = rw (items_view_len xs) refl

pub ids_back : (ids : List ℕ) → IdsFit ids → ids_from (items_of (map id_data ids)) ≡ Ok ids
ids_back [] h = refl
ids_back (id ∷ ids) h = rw (id_of_decimal id h.0, ids_back ids h.1) refl

pub ids_len : (ids : List ℕ) → items_len (items_of (map id_data ids)) ≡ length ids
ids_len [] = refl
ids_len (id ∷ ids) = rw (ids_len ids) refl

pub ids_depth : (ids : List ℕ) → items_depth (items_of (map id_data ids)) ≡ 0
ids_depth [] = refl
ids_depth (id ∷ ids) = rw (ids_depth ids) refl

pub ids_float : (ids : List ℕ) → items_have_float (items_of (map id_data ids)) ≡ false
ids_float [] = refl
ids_float (id ∷ ids) = ids_float ids
