-- The notes of the inputs that a worker took.
use Rattle.std.specs.Prelude.{◌≡◌, List, [], ◌∷◌, ◌++◌, Option, Some, None, ◌⊎◌}
use Rattle.std.specs.List.{AllZip}
use Rattle.world_law.specs.Inputs.{Input}
use Rattle.worker_core.specs.declared.io.Input.{Input as Given}
use Rattle.worker_core.specs.Outputs.{IsGiven}

-- where notes are told, these inputs were noted, in order
abbrev pub AreNoted : List Input → Option (List Given) → Option (List Given) → Type 0
AreNoted is None now = now ≡ None
AreNoted is (Some before) None = ⊥
AreNoted is (Some before) (Some now) = (notes : List Given) × ((now ≡ before ++ notes) × AllZip IsGiven notes is)

-- the same, but for a last one whose note was refused
abbrev pub AreNotedButLast : List Input → Option (List Given) → Option (List Given) → Type 0
AreNotedButLast is before now = AreNoted is before now ⊎ ((front : List Input) × ((last : Input) × ((is ≡ front ++ last ∷ []) × AreNoted front before now)))
