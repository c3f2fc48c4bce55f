-- What a house lends to a service and takes back.
use Rattle.std.specs.Prelude.{◌≡◌, ℕ, ◌+◌, ◌-◌, List, ◌++◌, length, map, replicate, min, Bool, true, false, Result, OnOk}
use Rattle.std.specs.List.{sum}
use Rattle.gate_outside.specs.declared.asked.Asked.{Asked}
use Rattle.gate_outside.specs.declared.asked.Asked.TheVariants as asked
use Rattle.gate_outside.specs.declared.faults.Fault.{Fault}
use Rattle.gate_outside.specs.declared.faults.Fault.TheVariants.{Failed, Memory}
use Rattle.gate_outside.specs.Clocks.{ClockTale}
use Rattle.gate_outside.specs.Houses.{HouseTale, ReturnedSource, ReturnedDoor, CountsFaults}
use Rattle.house_loans.specs.Loans.{GrowsByAll, AsksInOrder}
use Rattle.house_loans.specs.Sources.{source_counts}
use Rattle.house_loans.specs.Doors.{doors_from, door_counts}
use Rattle.serve_run.specs.declared.fault.ServeFault.{ServeFault}
use Rattle.serve_run.specs.declared.fault.ServeFault.TheVariants as fault

-- what a service needs, in the order in which it is asked for: the source of each file, a door at each port, and a clock
-- for each worker
abbrev pub asks_for : (port workers accepts : ℕ) → (files : List (List ℕ)) → List Asked
asks_for port workers accepts files = map asked.Source files ++ (doors_from port workers accepts ++ replicate workers asked.Clock)

-- the fault by which not all is lent, where a file may be left for which no source was given
abbrev pub refusal : Fault → (file_left : Bool) → ServeFault
refusal Failed true = fault.Read
refusal Failed false = fault.Door
refusal Memory file_left = fault.Memory

-- parts that go back
pub record Loans : Type 0 where
  pub sources : List ReturnedSource
  pub doors : List ReturnedDoor
  pub clocks : List ClockTale

-- of what a service needs so many were given, and no others
pub record AreFirst (many workers files : ℕ) (l : Loans) : Type 0 where
  pub sources : length l.sources ≡ min many files
  pub doors : length l.doors ≡ min (many - files) workers
  pub clocks : length l.clocks ≡ many - (files + workers)

-- these were put back, and nothing else; a count of faults rises exactly if one of its kind had failed
pub record PutsAll (back : Loans) (old new : HouseTale) : Type 0 where
  pub sources : GrowsByAll old.sources new.sources back.sources
  pub doors : GrowsByAll old.doors new.doors back.doors
  pub clocks : GrowsByAll old.clocks new.clocks back.clocks
  pub source_count : CountsFaults old.source_faults new.source_faults (sum (source_counts back.sources))
  pub door_count : CountsFaults old.door_faults new.door_faults (sum (door_counts back.doors))
  pub contents : new.contents ≡ old.contents
  pub asks : new.asks ≡ old.asks

-- What a service needs was asked for in order, until one part was not given. Then as many parts of each kind as were given
-- were put back. Where all were given, no count of faults rose before that.
pub record LendsAll (port workers accepts : ℕ) (files : List (List ℕ)) (many : ℕ) (given : Result (Unit {0}) Fault) (back : Loans) (old new : HouseTale) : Type 0 where
  pub lent : HouseTale
  pub asks : AsksInOrder (asks_for port workers accepts files) many old lent given
  pub sound : OnOk given ((lent.source_faults ≡ old.source_faults) × (lent.door_faults ≡ old.door_faults))
  pub as_many : AreFirst many workers (length files) back
  pub puts : PutsAll back lent new
