-- Two lists in turn.
use Rattle.std.specs.Prelude.{List, [], ◌∷◌}

-- the first of each, then the second of each, and so on; what is left of the longer one follows
abbrev pub woven : {T : Type 0} → List T → List T → List T
woven [] ys = ys
woven (x ∷ xs) [] = x ∷ xs
woven (x ∷ xs) (y ∷ ys) = x ∷ y ∷ woven xs ys
