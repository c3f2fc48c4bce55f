-- The parts on a shelf.
use Rattle.std.specs.Prelude.{List, [], ◌∷◌, ◌++◌, Box}
use Rattle.std.specs.declared.option.Option.{Option}
use Rattle.std.specs.declared.option.Option.TheVariants.{Some, None}
use Rattle.std.specs.declared.alloc.Global.{Global}
use Rattle.gate_outside.specs.declared.shelf.Place.{Place, Place', Held-Place-below, None', Some'}

module _ {T : Type 0} where
  -- the part at a place
  abbrev pub part_at : Place T → T
  part_at (Place' part below) = part

  -- the parts of a stack of places, the lowest first
  abbrev mutual
    pub all_at : Place T → List T
    all_at (Place' part below) = all_below below ++ part ∷ []

    pub all_below : Held-Place-below T → List T
    all_below None' = []
    all_below (Some' p place) = all_at place

  -- the parts on a shelf, the lowest first
  abbrev pub all_on : Option (Box (Place T) Global) → List T
  all_on None = []
  all_on (Some top) = all_at top.value
