-- What the command answers and leaves.
use Rattle.std.specs.Prelude.{◌≡◌, ℕ, List, Result, Ok, Err, Some, None}
use Rattle.std.specs.declared.option.Option.{Option}
use Rattle.gate_outside.specs.Dials.{DialTale}
use Rattle.gate_outside.specs.Houses.{HouseTale}
use Rattle.scenario.specs.declared.fault.PlayFault.{PlayFault}
use Rattle.scenario.specs.declared.fault.PlayFault.TheVariants as play
use Rattle.serve_words.specs.Words.{Asked as Command, run, load, serve, client, lift}
use Rattle.load_run.specs.declared.fault.LoadFault.{LoadFault}
use Rattle.load_run.specs.declared.fault.LoadFault.TheVariants as ends
use Rattle.load_run.specs.Causes.{Loads, HasLoadCause, StartsParts}
use Rattle.house_loans.specs.Clocks.{LendsClocks}
use Rattle.serve_run.specs.declared.fault.ServeFault.{ServeFault}
use Rattle.serve_run.specs.declared.fault.ServeFault.TheVariants as serving
use Rattle.serve_run.specs.Serving.{SinkTale, TeamTale, ServesFiles}
use Rattle.client_follow.specs.declared.fault.FollowFault.{FollowFault}
use Rattle.client_follow.specs.declared.fault.FollowFault.TheVariants as follow
use Rattle.file_lift.specs.declared.fault.LiftFault.{LiftFault}
use Rattle.file_lift.specs.declared.fault.LiftFault.TheVariants as lifting
use Rattle.file_commands.specs.Files.{TellsFault}
use Rattle.file_commands.specs.Playing.{play_status, PlaysFile}
use Rattle.file_commands.specs.Lifting.{lift_status, LiftsFile}
use Rattle.file_commands.specs.Usage.{TellsUsage}
use Rattle.gateway_main.specs.declared.fault.GateFault.{GateFault}
use Rattle.gateway_main.specs.declared.fault.GateFault.TheVariants as gate_fault
use Rattle.gateway_main.specs.Following.{following as client_of, FollowsOver}

-- the exit status of a load
abbrev pub load_status : Result (Unit {0}) LoadFault → ℕ
load_status (Ok x) = 0
load_status (Err ends.Write) = 4
load_status (Err ends.Memory) = 6
load_status (Err ends.Door) = 7
load_status (Err ends.Start) = 8
load_status (Err (ends.Out code)) = 10
load_status (Err ends.BadText) = 11
load_status (Err ends.Spent) = 12

-- the exit status of a run of `serve`
abbrev pub serve_status : Result (Unit {0}) ServeFault → ℕ
serve_status (Ok x) = 0
serve_status (Err serving.Read) = 3
serve_status (Err serving.Write) = 4
serve_status (Err (serving.Line file line fault)) = 5
serve_status (Err serving.Memory) = 6
serve_status (Err serving.Door) = 7
serve_status (Err serving.Start) = 8
serve_status (Err serving.Spent) = 12

-- the exit status of a client
abbrev pub follow_status : Result (Unit {0}) FollowFault → ℕ
follow_status (Ok x) = 0
follow_status (Err follow.Write) = 4
follow_status (Err follow.Memory) = 6
follow_status (Err follow.Dials) = 9
follow_status (Err (follow.Closed code)) = 10
follow_status (Err follow.BadText) = 11

-- why a play did not come to its end, and nothing if it did
abbrev pub play_fault : Result (Unit {0}) PlayFault → Option GateFault
play_fault (Ok x) = None
play_fault (Err fault) = Some (gate_fault.Play fault)

-- why a load did not come to its end, and nothing if it did
abbrev pub load_fault : Result (Unit {0}) LoadFault → Option GateFault
load_fault (Ok x) = None
load_fault (Err fault) = Some (gate_fault.Load fault)

-- why a run of `serve` did not come to its end, and nothing if it did
abbrev pub serve_fault : Result (Unit {0}) ServeFault → Option GateFault
serve_fault (Ok x) = None
serve_fault (Err fault) = Some (gate_fault.Serve fault)

-- why a client did not come to its end, and nothing if it did
abbrev pub follow_fault : Result (Unit {0}) FollowFault → Option GateFault
follow_fault (Ok x) = None
follow_fault (Err fault) = Some (gate_fault.Follow fault)

-- why a lift did not come to its end, and nothing if it did
abbrev pub lift_fault : Result (Unit {0}) LiftFault → Option GateFault
lift_fault (Ok x) = None
lift_fault (Err fault) = Some (gate_fault.Lift fault)

-- what is outside of the command tells: its house, also as a dial, with its count of faults as one; its sink, and its teams
pub record Outside : Type 0 where
  pub house : HouseTale
  pub dial : DialTale
  pub dial_faults : ℕ
  pub sink : SinkTale
  pub load_team : TeamTale
  pub serve_team : TeamTale

abbrev pub outside : HouseTale → DialTale → (dial_faults : ℕ) → SinkTale → (load_team serve_team : TeamTale) → Outside
outside house dial dial_faults sink load_team serve_team =
    record { house = house; dial = dial; dial_faults = dial_faults; sink = sink; load_team = load_team; serve_team = serve_team }

-- no URL was dialled
pub record LeavesDial (old new : Outside) : Type 0 where
  pub dial : new.dial ≡ old.dial
  pub dial_faults : new.dial_faults ≡ old.dial_faults

-- no team was used
pub record LeavesTeams (old new : Outside) : Type 0 where
  pub load_team : new.load_team ≡ old.load_team
  pub serve_team : new.serve_team ≡ old.serve_team

-- words that are not in the grammar: the usage line is told, and nothing is asked for
pub record Refuses (old new : Outside) (told : Option GateFault) (status : ℕ) : Type 0 where
  pub usage : TellsUsage old.sink.got new.sink.got old.sink.waits old.sink.faults new.sink.faults status
  pub house : new.house ≡ old.house
  pub dial : LeavesDial old new
  pub teams : LeavesTeams old new
  pub fault : told ≡ None

-- `run FILE`: the file is asked for and played
pub record Plays (file : List ℕ) (old new : Outside) (told : Option GateFault) (status : ℕ) : Type 0 where
  pub played : Result (Unit {0}) PlayFault
  pub status_is : status ≡ play_status played
  pub plays : PlaysFile file old.house new.house old.sink.got new.sink.got old.sink.waits old.sink.faults new.sink.faults played
  pub dial : LeavesDial old new
  pub teams : LeavesTeams old new
  pub fault : TellsFault told (play_fault played) (played ≡ Err play.Memory)

-- `load SEED`: the load with that seed is run, with clocks that the house lends
pub record RunsLoad (seed : ℕ) (old new : Outside) (told : Option GateFault) (status : ℕ) : Type 0 where
  pub loaded : Result (Unit {0}) LoadFault
  pub status_is : status ≡ load_status loaded
  pub loads : Loads seed old.sink.got new.sink.got old.sink.waits loaded
  pub cause : HasLoadCause seed old.load_team.faults new.load_team.faults old.sink.faults new.sink.faults loaded
  pub starts : StartsParts old.load_team.starts new.load_team.starts loaded
  pub clocks : LendsClocks 15 old.house new.house
  pub dial : LeavesDial old new
  pub serve_team : new.serve_team ≡ old.serve_team
  pub fault : TellsFault told (load_fault loaded) (loaded ≡ Err ends.Memory)

-- `serve PORT WORKERS ACCEPTS FILES`: those who connect are served, with sources, doors and clocks that the house lends
pub record RunsServe (R : Type 0) (port workers accepts : ℕ) (files : List (List ℕ)) (old new : Outside) (told : Option GateFault) (status : ℕ) : Type 0 where
  pub ended : Result (Unit {0}) ServeFault
  pub status_is : status ≡ serve_status ended
  pub serves : ServesFiles R port workers accepts files old.house new.house old.sink new.sink old.serve_team new.serve_team ended
  pub dial : LeavesDial old new
  pub load_team : new.load_team ≡ old.load_team
  pub fault : TellsFault told (serve_fault ended) (ended ≡ Err serving.Memory)

-- `client URL TOKEN INTENTS COUNT`: the gateway at that URL is followed, over the house's dial and with a clock that it lends
pub record RunsClient (url token : List ℕ) (intents count : ℕ) (old new : Outside) (told : Option GateFault) (status : ℕ) : Type 0 where
  pub followed : Result (Unit {0}) FollowFault
  pub status_is : status ≡ follow_status followed
  pub follows : FollowsOver (client_of url token intents count) old.house new.house old.dial new.dial old.sink new.sink followed
  pub teams : LeavesTeams old new
  pub fault : TellsFault told (follow_fault followed) (followed ≡ Err follow.Memory)

-- `lift FILE`: the file is asked for and lifted
pub record RunsLift (file : List ℕ) (old new : Outside) (told : Option GateFault) (status : ℕ) : Type 0 where
  pub lifted : Result (Unit {0}) LiftFault
  pub status_is : status ≡ lift_status lifted
  pub lifts : LiftsFile file old.house new.house old.sink.got new.sink.got old.sink.waits old.sink.faults new.sink.faults lifted
  pub dial : LeavesDial old new
  pub teams : LeavesTeams old new
  pub fault : TellsFault told (lift_fault lifted) (lifted ≡ Err lifting.Memory)

-- what is done for what the words ask for
abbrev pub Does : (R : Type 0) → Option Command → (old new : Outside) → (told : Option GateFault) → (status : ℕ) → Type 0
Does R None old new told status = Refuses old new told status
Does R (Some (run file)) old new told status = Plays file old new told status
Does R (Some (load seed)) old new told status = RunsLoad seed old new told status
Does R (Some (serve port workers accepts files)) old new told status = RunsServe R port workers accepts files old new told status
Does R (Some (client url token intents count)) old new told status = RunsClient url token intents count old new told status
Does R (Some (lift file)) old new told status = RunsLift file old new told status
