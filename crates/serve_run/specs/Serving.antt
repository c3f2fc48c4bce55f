-- What a run of `serve` with what a house lends to it has done.
use Rattle.std.specs.Prelude.{◌≡◌, ◌⊎◌, ℕ, ◌+◌, List, length, map, All, nat_lt, Result, Err, OnOk, IfErr}
use Rattle.std.specs.declared.option.Option.{Option as Known}
use Rattle.gate_outside.specs.declared.faults.Fault.{Fault}
use Rattle.gate_outside.specs.Causes.{Rose}
use Rattle.gate_outside.specs.Clocks.{IsNewClock}
use Rattle.gate_outside.specs.Doors.{IsNewDoor}
use Rattle.gate_outside.specs.Houses.{HouseTale}
use Rattle.gate_outside.specs.Spawners.{Starts}
use Rattle.house_loans.specs.Sources.{source_counts}
use Rattle.house_loans.specs.Doors.{door_counts}
use Rattle.serve_run.specs.Services.{Service}
use Rattle.serve_run.specs.declared.fault.ServeFault.{ServeFault}
use Rattle.serve_run.specs.declared.fault.ServeFault.TheVariants.{Memory, Door, Read}
use Rattle.serve_run.specs.Causes.{HasServeCause, StartsParts}
use Rattle.serve_run.specs.Serves.{Serves}
use Rattle.serve_run.specs.Begun.{AreBegun}
use Rattle.serve_run.specs.Loans.{Loans, LendsAll, refusal}

-- what a sink got, what waits before it, and its count of faults
pub record SinkTale : Type 0 where
  pub got : Known (List ℕ)
  pub waits : List ℕ
  pub faults : ℕ

abbrev pub sink_tale : Known (List ℕ) → List ℕ → ℕ → SinkTale
sink_tale got waits faults = record { got = got; waits = waits; faults = faults }

-- the starts of a team, and its count of faults
pub record TeamTale : Type 0 where
  pub starts : Starts
  pub faults : ℕ

abbrev pub team_tale : Starts → ℕ → TeamTale
team_tale starts faults = record { starts = starts; faults = faults }

module _ (R : Type 0) (port workers accepts : ℕ) where
  module _ (sink0 sink1 : SinkTale) (team0 team1 : TeamTale) where
    -- nothing was written, and no part was started
    abbrev pub ServesNone : Type 0
    ServesNone = (sink1 ≡ sink0) × (team1 ≡ team0)

    -- A service of files with these bytes was served, with a new door and a new clock for each worker. These are the counts of
    -- faults of the sources and doors that go back.
    pub record WasServed (owns : List (Known (List ℕ))) (sources doors : List ℕ) (ended : Result (Unit {0}) ServeFault) : Type 0 where
      pub service : Service
      pub port_is : service.port ≡ port
      pub files : AreBegun owns service
      pub doors_are : (length service.doors ≡ workers) × All (λ d. IsNewDoor accepts d.tale d.faults) service.doors
      pub clocks_are : (length service.clocks ≡ workers) × All IsNewClock service.clocks
      pub serves : Serves service sink0.got sink1.got sink0.waits sink0.faults sink1.faults ended
      pub cause : HasServeCause R service team0.faults team1.faults sink0.faults sink1.faults sources doors ended
      pub starts : StartsParts (2 + (length owns + workers)) team0.starts team1.starts ended

    -- With all that was needed the run was served, or memory ran out before it began.
    abbrev pub ServesIfLent : (owns : List (Known (List ℕ))) → Loans → Result (Unit {0}) ServeFault → Type 0
    ServesIfLent owns back ended =
        ((ended ≡ Err Memory) × ServesNone) ⊎ WasServed owns (source_counts back.sources) (door_counts back.doors) ended

  -- What was needed was lent, and then the run was served; or not all of it was lent, and nothing was served. `Read` is
  -- answered only if the house's count of source faults rose, and `Door` only if that of door faults did.
  pub record ServesFiles (files : List (List ℕ)) (house0 house1 : HouseTale) (sink0 sink1 : SinkTale) (team0 team1 : TeamTale) (ended : Result (Unit {0}) ServeFault) : Type 0 where
    pub many : ℕ
    pub given : Result (Unit {0}) Fault
    pub back : Loans
    pub lends : LendsAll port workers accepts files many given back house0 house1
    pub refused : IfErr given (λ fault. (ended ≡ Err (refusal fault (nat_lt many (length files)))) × ServesNone sink0 sink1 team0 team1)
    pub served : OnOk given (ServesIfLent sink0 sink1 team0 team1 (map house0.contents files) back ended)
    pub read : ended ≡ Err Read → Rose house0.source_faults house1.source_faults
    pub door : ended ≡ Err Door → Rose house0.door_faults house1.door_faults
