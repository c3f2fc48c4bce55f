-- What the command `run` does over a house.
use Rattle.std.specs.Prelude.{ℕ, List, Result, Ok, Err, MatchResult}
use Rattle.std.specs.declared.option.Option.{Option}
use Rattle.gate_outside.specs.Houses.{HouseTale, ReturnedSource}
use Rattle.scenario.specs.declared.fault.PlayFault.{PlayFault}
use Rattle.scenario.specs.declared.fault.PlayFault.TheVariants as play
use Rattle.scenario.specs.Played.{PlaysAll, PlaysTo, PlayCause}
use Rattle.file_commands.specs.Files.{TakesFile, AsksForFile, LeavesRest}

-- the exit status of a play
abbrev pub play_status : Result (Unit {0}) PlayFault → ℕ
play_status (Ok x) = 0
play_status (Err play.Read) = 3
play_status (Err play.Write) = 4
play_status (Err (play.Line line fault)) = 5
play_status (Err play.Memory) = 6
play_status (Err play.Spent) = 12

-- the file was played, if its source was given, after the bytes that waited before the sink
abbrev pub Runs : Option (List ℕ) → (returned0 returned1 : Option (List ReturnedSource)) (got0 got1 : Option (List ℕ)) → (before : List ℕ) → Result (Unit {0}) PlayFault → Type 0
Runs own returned0 returned1 got0 got1 before played = TakesFile play.Read play.Memory own returned0 returned1 got0 got1 (λ (left0 left1 : Option (List ℕ)). MatchResult played (λ _. PlaysAll left0 left1 got0 got1 before) (PlaysTo left0 left1 got0 got1 before)) played

-- `run FILE`: the file is asked for, played, and put back
pub record PlaysFile (file : List ℕ) (house0 house1 : HouseTale) (got0 got1 : Option (List ℕ)) (before : List ℕ) (faults0 faults1 : ℕ) (played : Result (Unit {0}) PlayFault) : Type 0 where
  pub runs : Runs (house0.contents file) house0.sources house1.sources got0 got1 before played
  pub asks : AsksForFile play.Memory house0.asks house1.asks file played
  pub cause : PlayCause house0.source_faults house1.source_faults faults0 faults1 played
  pub rest : LeavesRest house0 house1
