-- Lists that are no shard's.
use Rattle.std.proofs.Common.{◌≡◌, List, [], ◌∷◌, length, Err, refl}
use Rattle.std.specs.declared.alloc.Global.{Global}
use Rattle.json.specs.declared.value.Value.{Value}
use Rattle.json_view.specs.Nodes.{items_view}
use Rattle.object_json.specs.declared.fault.ReadFault.TheVariants.{BadField}
use Rattle.event_json.specs.Ready.{pair_from}

pub pair_of_others : (xs : List (Value Global)) → (length xs ≡ 2 → ⊥) → pair_from (items_view xs) ≡ Err BadField
pair_of_others [] h = refl
pair_of_others (a ∷ []) h = refl
pair_of_others (a ∷ b ∷ []) h = absurd (h refl)
pair_of_others (a ∷ b ∷ c ∷ rest) h = refl
