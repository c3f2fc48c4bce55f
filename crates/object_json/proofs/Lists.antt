-- Lists of values.
use Rattle.std.proofs.Common.{◌≡◌, List, [], ◌∷◌, length, refl}
use Rattle.std.specs.declared.alloc.Global.{Global}
use Rattle.json.specs.declared.value.Value.{Value}
use Rattle.serde_json.specs.Events.{items_len}
use Rattle.json_view.specs.Nodes.{items_view}

pub items_view_len : (xs : List (Value Global)) → items_len (items_view xs) ≡ length xs
items_view_len [] = refl
items_view_len (x ∷ xs) = rw (items_view_len xs) refl
