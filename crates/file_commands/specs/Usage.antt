-- The usage line of the command.
use Rattle.std.specs.Prelude.{◌≡◌, ◌⊎◌, ℕ, List, [], ◌∷◌, ◌++◌, codes, Result, Ok, Err}
use Rattle.std.specs.declared.option.Option.{Option}
use Rattle.std.specs.Io.KnownBytes.{Appends}
use Rattle.gate_outside.specs.Causes.{Rose}
use Rattle.gate_outside.specs.Streams.{AppendsFront}
use Rattle.gate_outside.specs.declared.faults.Fault.{Fault}
use Rattle.gate_outside.specs.declared.faults.Fault.TheVariants as sink_fault

abbrev pub usage : List ℕ
usage = codes "usage: gate run FILE | serve PORT WORKERS ACCEPTS FILES | client URL TOKEN INTENTS COUNT | load SEED | lift FILE" ++ 10 ∷ []

abbrev pub usage_status : Result (Unit {0}) Fault → ℕ
usage_status (Ok x) = 2
usage_status (Err sink_fault.Failed) = 2
usage_status (Err sink_fault.Memory) = 6

-- the whole usage line after the bytes that waited before the sink, or a front of both if the sink's count rose or
-- memory ran out
abbrev pub TellsUsage : (got0 got1 : Option (List ℕ)) → (before : List ℕ) → (faults0 faults1 : ℕ) → (status : ℕ) → Type 0
TellsUsage got0 got1 before faults0 faults1 status =
    ((status ≡ 2) × Appends got0 got1 (before ++ usage) × (faults1 ≡ faults0))
    ⊎ (((status ≡ 2) × AppendsFront got0 got1 (before ++ usage) × Rose faults0 faults1)
    ⊎ ((status ≡ 6) × AppendsFront got0 got1 (before ++ usage)))
