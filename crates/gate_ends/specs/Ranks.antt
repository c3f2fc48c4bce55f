-- Which of several faults a run answers.
use Rattle.std.specs.Prelude.{ℕ, nat_lt, if◌then◌else◌, Option, Some, None}

module _ {F : Type 0} (rank : F → ℕ) where
  -- of two that of the smaller rank, or else the first
  abbrev pub sooner_by : Option F → Option F → Option F
  sooner_by None other = other
  sooner_by (Some one) None = Some one
  sooner_by (Some one) (Some other) = if nat_lt (rank other) (rank one) then Some other else Some one
