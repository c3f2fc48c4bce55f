-- internal: cited by private functions only. The parts that a house lends, by their types.
use Rattle.std.specs.Prelude.{◌≡◌, ℕ, ◌≤◌, List, [], length, map, nat_lt, All, Result, Ok, Err, IfErr, OnOk}
use Rattle.std.specs.List.{AllZip}
use Rattle.std.specs.Vec.{vec_capacity}
use Rattle.std.specs.declared.option.Option.{Option as Known}
use Rattle.gate_outside.specs.declared.faults.Fault.{Fault}
use Rattle.gate_outside.specs.declared.faults.Fault.TheVariants.{Failed, Memory}
use Rattle.gate_outside.specs.Causes.{Rose}
use Rattle.gate_outside.specs.Clocks.{ClockTale, IsNewClock}
use Rattle.gate_outside.specs.Doors.{DoorTale, IsNewDoor}
use Rattle.gate_outside.specs.Houses.{HouseTale, returned_source, returned_door}
use Rattle.house_loans.specs.Loans.{AsksInOrder}
use Rattle.house_loans.specs.Sources.{IsOwnSource}
use Rattle.serve_run.specs.declared.ends.Returned.{Returned}
use Rattle.serve_run.specs.declared.fault.ServeFault.{ServeFault}
use Rattle.serve_run.specs.declared.fault.ServeFault.TheVariants as fault
use Rattle.serve_run.specs.declared.loan_rooms.LoanRooms.{LoanRooms}
use Rattle.serve_run.specs.Loans.{Loans, AreFirst, asks_for, refusal}
use Rattle.serve_run.specs.Serving.{SinkTale, TeamTale, ServesIfLent}

-- the fault of a part that is not given, with the fault of its kind
abbrev pub refused_by : Fault → ServeFault → ServeFault
refused_by Failed failed = failed
refused_by Memory failed = fault.Memory

module _ {S D C : Type 0} where
  -- room for so many parts of each kind, of which there are none yet
  pub record ArePlaces (files workers : ℕ) (p : Returned S D C) : Type 0 where
    pub sources : (p.sources.items ≡ []) × (files ≤ vec_capacity p.sources)
    pub doors : (p.doors.items ≡ []) × (workers ≤ vec_capacity p.doors)
    pub clocks : (p.clocks.items ≡ []) × (workers ≤ vec_capacity p.clocks)

  pub record HaveLoanRoom (files workers : ℕ) (r : LoanRooms S D C) : Type 0 where
    pub parts : ArePlaces files workers r.parts
    pub sources : (r.sources.items ≡ []) × (files ≤ vec_capacity r.sources)

  -- 1 to 12 sources, 1 to 4 doors, and a clock for each door
  pub record AreCounts (p : Returned S D C) : Type 0 where
    pub sources : (1 ≤ length p.sources.items) × (length p.sources.items ≤ 12)
    pub doors : (1 ≤ length p.doors.items) × (length p.doors.items ≤ 4)
    pub clocks : length p.clocks.items ≡ length p.doors.items

  -- as many parts of each kind
  pub record AreAlike (old new : Returned S D C) : Type 0 where
    pub sources : length new.sources.items ≡ length old.sources.items
    pub doors : length new.doors.items ≡ length old.doors.items
    pub clocks : length new.clocks.items ≡ length old.clocks.items

module _ {S D C : Type 0} (left : S → Known (List ℕ)) (source_faults : S → ℕ) (door_tale : D → DoorTale) (door_faults : D → ℕ) (clock_tale : C → ClockTale) where
  -- what is told of these parts
  abbrev pub loans_of : Returned S D C → Loans
  loans_of p = record {
    sources = map (λ s. returned_source (left s) (source_faults s)) p.sources.items;
    doors = map (λ d. returned_door (door_tale d) (door_faults d)) p.doors.items;
    clocks = map clock_tale p.clocks.items;
  }

  -- sources of these bytes before their first reads, new doors, and new clocks
  pub record AreNew (accepts : ℕ) (owns : List (Known (List ℕ))) (p : Returned S D C) : Type 0 where
    pub sources : AllZip (λ own source. IsOwnSource left source_faults own source) owns p.sources.items
    pub doors : All (λ d. IsNewDoor accepts (door_tale d) (door_faults d)) p.doors.items
    pub clocks : All (λ c. IsNewClock (clock_tale c)) p.clocks.items

  -- what a service needs was asked for in order, and given until one part was not
  pub record LendsParts (port workers accepts : ℕ) (files : List (List ℕ)) (old lent : HouseTale) (p : Returned S D C) (result : Result (Unit {0}) ServeFault) : Type 0 where
    pub many : ℕ
    pub given : Result (Unit {0}) Fault
    pub asks : AsksInOrder (asks_for port workers accepts files) many old lent given
    pub first : AreFirst many workers (length files) (loans_of p)
    pub each : OnOk given ((result ≡ Ok tt) × AreNew accepts (map old.contents files) p)
    pub sound : OnOk given ((lent.source_faults ≡ old.source_faults) × (lent.door_faults ≡ old.door_faults))
    pub refused : IfErr given (λ fault. result ≡ Err (refusal fault (nat_lt many (length files))))
    pub read : result ≡ Err fault.Read → Rose old.source_faults lent.source_faults
    pub door : result ≡ Err fault.Door → Rose old.door_faults lent.door_faults

  -- these parts were served, whatever is told of them, and as many go back; or nothing was served
  pub record ServesOrNot (R : Type 0) (port : ℕ) (p : Returned S D C) (back : Returned S D C) (sink0 sink1 : SinkTale) (team0 team1 : TeamTale) (ended : Result (Unit {0}) ServeFault) : Type 0 where
    pub alike : AreAlike p back
    pub serves : (accepts : ℕ) (owns : List (Known (List ℕ))) → AreNew accepts owns p → ServesIfLent R port (length p.doors.items) accepts sink0 sink1 team0 team1 owns (loans_of back) ended
