-- What is kept of links that are back.
use Rattle.std.specs.Prelude.{List, [], ◌∷◌, ◌++◌, Box}
use Rattle.std.specs.declared.option.Option.{Option}
use Rattle.std.specs.declared.option.Option.TheVariants.{Some, None}
use Rattle.std.specs.declared.alloc.Global.{Global}
use Rattle.thread_outside.specs.declared.link_shelf.Place.{Place, Place', Held-Place-below, None', Some'}
use Rattle.gate_outside.specs.Links.{ReturnedLink}

-- what is kept at a place
abbrev pub kept_at : Place → ReturnedLink
kept_at (Place' tale faults below) = record { gave = Some tale.gave; sent = Some tale.sent; faults = faults }

-- what is kept at the place of a link before its first call
abbrev pub new_place : ReturnedLink
new_place = record { gave = Some []; sent = Some []; faults = 0 }

-- what is kept in a stack of places, the lowest first
abbrev mutual
  pub all_at : Place → List ReturnedLink
  all_at (Place' tale faults below) =
      all_below below ++ record { gave = Some tale.gave; sent = Some tale.sent; faults = faults } ∷ []

  pub all_below : Held-Place-below → List ReturnedLink
  all_below None' = []
  all_below (Some' p place) = all_at place

-- what is kept on a shelf, the lowest first
abbrev pub all_on : Option (Box Place Global) → List ReturnedLink
all_on None = []
all_on (Some top) = all_at top.value
