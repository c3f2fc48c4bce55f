-- Lists of values.
use Rattle.std.proofs.Common.{◌≡◌, List, [], ◌∷◌, length, Err, refl}
use Rattle.serde_json.specs.declared.value.Value.{Value}
use Rattle.serde_json.specs.Events.{items_len}
use Rattle.serde_json.specs.View.{items_view}
use Rattle.gateway_frames.specs.declared.fault.FrameFault.TheVariants.{BadShape}
use Rattle.gateway_frames.specs.Shape.{pair_from}

pub pair_of_others : (xs : List Value) → (length xs ≡ 2 → ⊥) → pair_from (items_view xs) ≡ Err BadShape
pair_of_others [] h = refl
pair_of_others (a ∷ []) h = refl
pair_of_others (a ∷ b ∷ []) h = absurd (h refl)
pair_of_others (a ∷ b ∷ c ∷ rest) h = refl

pub items_view_len : (xs : List Value) → items_len (items_view xs) ≡ length xs
items_view_len [] = refl
items_view_len (x ∷ xs) = rw (items_view_len xs) refl
