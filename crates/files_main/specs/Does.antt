-- What the program for files answers and leaves.
use Rattle.std.specs.Prelude.{◌≡◌, ℕ, List, Bool, true, false, Result, Ok, Err, Option as Maybe, Some, None}
use Rattle.std.specs.declared.option.Option.{Option}
use Rattle.gate_outside.specs.Houses.{HouseTale}
use Rattle.scenario.specs.declared.fault.PlayFault.{PlayFault}
use Rattle.scenario.specs.declared.fault.PlayFault.TheVariants as play
use Rattle.file_lift.specs.declared.fault.LiftFault.{LiftFault}
use Rattle.file_lift.specs.declared.fault.LiftFault.TheVariants as lifting
use Rattle.serve_words.specs.Words.{Asked as Command, run, load, serve, client, lift}
use Rattle.file_commands.specs.Files.{TellsFault}
use Rattle.file_commands.specs.Playing.{play_status, PlaysFile}
use Rattle.file_commands.specs.Lifting.{lift_status, LiftsFile}
use Rattle.file_commands.specs.Usage.{TellsUsage}
use Rattle.files_main.specs.declared.fault.FilesFault.{FilesFault}
use Rattle.files_main.specs.declared.fault.FilesFault.TheVariants as files_fault

-- whether the words are those of a command over a file
abbrev pub names_file : Maybe Command → Bool
names_file None = false
names_file (Some (run file)) = true
names_file (Some (load seed)) = false
names_file (Some (serve port workers accepts files)) = false
names_file (Some (client url token intents count)) = false
names_file (Some (lift file)) = true

-- why a play did not come to its end, and nothing if it did
abbrev pub play_fault : Result (Unit {0}) PlayFault → Maybe FilesFault
play_fault (Ok x) = None
play_fault (Err fault) = Some (files_fault.Play fault)

-- why a lift did not come to its end, and nothing if it did
abbrev pub lift_fault : Result (Unit {0}) LiftFault → Maybe FilesFault
lift_fault (Ok x) = None
lift_fault (Err fault) = Some (files_fault.Lift fault)

module _ (house0 house1 : HouseTale) (got0 got1 : Option (List ℕ)) (before : List ℕ) (faults0 faults1 : ℕ) (told : Maybe FilesFault) (status : ℕ) where
  -- other words: the usage line is told, and nothing is asked for
  pub record Refuses : Type 0 where
    pub usage : TellsUsage got0 got1 before faults0 faults1 status
    pub house : house1 ≡ house0
    pub fault : told ≡ None

  -- `run FILE`: the file is asked for and played
  pub record Plays (file : List ℕ) : Type 0 where
    pub played : Result (Unit {0}) PlayFault
    pub status_is : status ≡ play_status played
    pub plays : PlaysFile file house0 house1 got0 got1 before faults0 faults1 played
    pub fault : TellsFault told (play_fault played) (played ≡ Err play.Memory)

  -- `lift FILE`: the file is asked for and lifted
  pub record Lifts (file : List ℕ) : Type 0 where
    pub lifted : Result (Unit {0}) LiftFault
    pub status_is : status ≡ lift_status lifted
    pub lifts : LiftsFile file house0 house1 got0 got1 before faults0 faults1 lifted
    pub fault : TellsFault told (lift_fault lifted) (lifted ≡ Err lifting.Memory)

  -- what is done for what the words ask for
  abbrev pub Does : Maybe Command → Type 0
  Does None = Refuses
  Does (Some (run file)) = Plays file
  Does (Some (load seed)) = Refuses
  Does (Some (serve port workers accepts files)) = Refuses
  Does (Some (client url token intents count)) = Refuses
  Does (Some (lift file)) = Lifts file
