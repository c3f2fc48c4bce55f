-- internal: cited by private functions only. Three lists in turn.
use Rattle.std.specs.Prelude.{List, [], ◌∷◌}

-- three lists place by place, as far as all of them go
abbrev pub in_turn : {X : Type 0} → List X → List X → List X → List X
in_turn [] ys zs = []
in_turn (x ∷ xs) [] zs = []
in_turn (x ∷ xs) (y ∷ ys) [] = []
in_turn (x ∷ xs) (y ∷ ys) (z ∷ zs) = x ∷ y ∷ z ∷ in_turn xs ys zs
