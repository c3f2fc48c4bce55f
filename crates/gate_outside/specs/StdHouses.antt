-- The house over the system, and the network of one that has none.
use Rattle.std.specs.Prelude.{◌≡◌, ℕ, ◌==◌, if◌then◌else◌, List, Result, Ok, Err}
use Rattle.std.specs.declared.option.Option.{Option}
use Rattle.std.specs.declared.option.Option.TheVariants.{None}
use Rattle.gate_outside.specs.declared.back.Back.{Back}
use Rattle.gate_outside.specs.declared.back.Back.TheVariants as back
use Rattle.gate_outside.specs.declared.faults.Fault.{Fault}
use Rattle.gate_outside.specs.declared.faults.Fault.TheVariants.{Failed, Memory}
use Rattle.gate_outside.specs.Causes.{one_more}
use Rattle.gate_outside.specs.Dials.{DialTale}
use Rattle.gate_outside.specs.Houses.{HouseTale, ReturnedDoor, no_house}
use Rattle.gate_outside.specs.StdStreams.{InputState}

-- no network: its dry run, and how often a dial and an ask for a door failed
pub record NoNetworkState : Type 0 where
  pub dry_run : ℕ
  pub dial_faults : ℕ
  pub door_faults : ℕ

-- no network before its first call
abbrev pub new_network : NoNetworkState
new_network = record { dry_run = 0; dial_faults = 0; door_faults = 0 }

-- what no network tells as a dial
abbrev pub dial_tale_of : NoNetworkState → DialTale
dial_tale_of n = record { dry_run = n.dry_run; urls = None; returned = None }

-- what no network tells of its doors
abbrev pub doors_of : NoNetworkState → HouseTale
doors_of n = record no_house { door_faults = n.door_faults }

-- after a dial, which fails
abbrev pub after_failed_dial : NoNetworkState → NoNetworkState
after_failed_dial n = record n { dry_run = one_more n.dry_run; dial_faults = one_more n.dial_faults }

-- after an ask for a door, which fails
abbrev pub after_failed_ask : NoNetworkState → NoNetworkState
after_failed_ask n = record n { door_faults = one_more n.door_faults }

-- a count after what is put back with so many faults
abbrev pub count_with : ℕ → ℕ → ℕ
count_with count faults = if faults == 0 then count else one_more count

-- what a network tells as a dial and of doors, and its counts of faults
pub record NetworkState : Type 0 where
  pub dial : DialTale
  pub dial_faults : ℕ
  pub doors : Option (List ReturnedDoor)
  pub door_faults : ℕ

abbrev pub network_state : DialTale → ℕ → HouseTale → NetworkState
network_state dial dial_faults house = record {
  dial = dial;
  dial_faults = dial_faults;
  doors = house.doors;
  door_faults = house.door_faults;
}

-- the network of which a call of the dial has touched nothing else
abbrev pub with_dial_of : NetworkState → NetworkState → NetworkState
with_dial_of n new = record n { dial = new.dial; dial_faults = new.dial_faults }

-- the real house: the faults of sources, and its network
pub record RealHouseState : Type 0 where
  pub source_faults : ℕ
  pub network : NetworkState

-- what the real house tells
abbrev pub real_tale : RealHouseState → HouseTale
real_tale h = record {
  contents = λ name. None;
  asks = None;
  sources = None;
  doors = h.network.doors;
  clocks = None;
  source_faults = h.source_faults;
  door_faults = h.network.door_faults;
}

-- after an ask for a source; out of memory is no fault of the house
abbrev pub after_ask : {T : Type 0} → RealHouseState → Result T Fault → RealHouseState
after_ask h (Ok source) = h
after_ask h (Err Failed) = record h { source_faults = one_more h.source_faults }
after_ask h (Err Memory) = h

-- a call of `put_back`; a door goes to the network, and nothing is kept of a clock
abbrev pub Retakes : {D C : Type 0} → RealHouseState → RealHouseState → Back InputState D C → Type 0
Retakes old new (back.Source s) = new ≡ record old { source_faults = count_with old.source_faults s.faults }
Retakes old new (back.Door d) = new ≡ record old { network = new.network }
Retakes old new (back.Clock c) = new ≡ old
