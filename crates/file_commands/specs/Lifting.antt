-- What the command `lift` does over a house.
use Rattle.std.specs.Prelude.{◌≡◌, ℕ, List, Result, Ok, Err}
use Rattle.std.specs.declared.option.Option.{Option}
use Rattle.std.specs.Io.KnownBytes.{Appends}
use Rattle.gate_outside.specs.Houses.{HouseTale, ReturnedSource}
use Rattle.gate_outside.specs.Streams.{AppendsFront}
use Rattle.file_lift.specs.declared.fault.LiftFault.{LiftFault}
use Rattle.file_lift.specs.declared.fault.LiftFault.TheVariants as lift
use Rattle.file_lift.specs.Lifted.{SaysTheSame}
use Rattle.file_lift.specs.Lifting.{LiftCause, Lifts}
use Rattle.file_commands.specs.Files.{TakesFile, AsksForFile, LeavesRest}
use Rattle.scenario.specs.Transcript.{transcript, ending}

-- the exit status of a lift
abbrev pub lift_status : Result (Unit {0}) LiftFault → ℕ
lift_status (Ok x) = 0
lift_status (Err lift.Read) = 3
lift_status (Err lift.Write) = 4
lift_status (Err (lift.Line line fault)) = 5
lift_status (Err lift.Memory) = 6

-- the file was lifted, if its source was given, after the bytes that waited before the sink
abbrev pub LiftsNamed : Option (List ℕ) → (returned0 returned1 : Option (List ReturnedSource)) (got0 got1 : Option (List ℕ)) → (before : List ℕ) → Result (Unit {0}) LiftFault → Type 0
LiftsNamed own returned0 returned1 got0 got1 before lifted = TakesFile lift.Read lift.Memory own returned0 returned1 got0 got1 (λ (left0 left1 : Option (List ℕ)). Lifts left0 left1 before (Appends got0 got1) (AppendsFront got0 got1) lifted) lifted

-- `lift FILE`: the file is asked for, lifted, and put back
pub record LiftsFile (file : List ℕ) (house0 house1 : HouseTale) (got0 got1 : Option (List ℕ)) (before : List ℕ) (faults0 faults1 : ℕ) (lifted : Result (Unit {0}) LiftFault) : Type 0 where
  pub lifts : LiftsNamed (house0.contents file) house0.sources house1.sources got0 got1 before lifted
  pub asks : AsksForFile lift.Memory house0.asks house1.asks file lifted
  pub cause : LiftCause house0.source_faults house1.source_faults faults0 faults1 lifted
  pub rest : LeavesRest house0 house1

-- a file that says what another does, line by line, each line in its newest version, plays the same
unfoldable pub MeansTheSame : Type 0
MeansTheSame = (new old : List ℕ) → SaysTheSame new old → (transcript new ≡ transcript old) × (ending new ≡ ending old)
