-- The house in memory.
use Rattle.std.specs.Prelude.{◌≡◌, ℕ, List, [], ◌∷◌, ◌++◌, map, Bool, true, false, if◌then◌else◌, ◌||◌, Result, Ok, Err, is_none, find, ◌==◌}
use Rattle.std.specs.Option.{option_map}
use Rattle.std.specs.declared.option.Option.{Option}
use Rattle.std.specs.declared.option.Option.TheVariants.{Some, None}
use Rattle.std.specs.Str.{bytes_eq}
use Rattle.gate_outside.specs.declared.asked.Asked.{Asked}
use Rattle.gate_outside.specs.declared.asked.Asked.TheVariants as asked
use Rattle.gate_outside.specs.declared.back.Back.{Back}
use Rattle.gate_outside.specs.declared.back.Back.TheVariants as back
use Rattle.gate_outside.specs.declared.faults.Fault.{Fault}
use Rattle.gate_outside.specs.declared.faults.Fault.TheVariants as fault
use Rattle.gate_outside.specs.Clocks.{ClockTale}
use Rattle.gate_outside.specs.FaultPlans.{Plan, fresh, fails, after_call, after_fault, after_failed_call}
use Rattle.gate_outside.specs.MemStreams.{SourceState}
use Rattle.gate_outside.specs.Houses.{HouseTale, ReturnedSource, returned_source}
use Rattle.gate_outside.specs.StdHouses.{NetworkState}

-- a name with its bytes, the most of them that one read gives, and the reads that are to fail
pub record FileState : Type 0 where
  pub name : List ℕ
  pub bytes : List ℕ
  pub most : ℕ
  pub failing : List ℕ

-- the first file of that name
abbrev pub file_of : List FileState → List ℕ → Option FileState
file_of files name = find (λ f. bytes_eq f.name name) files

-- the files; the clock of which each that is given is a copy; what was asked for; which asks for a source fail;
-- the sources and the clocks that are back; the network
pub record HouseState : Type 0 where
  pub files : List FileState
  pub clock : ClockTale
  pub asks : List Asked
  pub plan : Plan
  pub sources : List SourceState
  pub clocks : List ClockTale
  pub network : NetworkState

abbrev pub new_house : List FileState → ClockTale → List ℕ → NetworkState → HouseState
new_house files clock failing network = record {
  files = files;
  clock = clock;
  asks = [];
  plan = fresh failing;
  sources = [];
  clocks = [];
  network = network;
}

-- a name's own bytes
abbrev pub bytes_of : List FileState → List ℕ → Option (List ℕ)
bytes_of files name = option_map (λ f. f.bytes) (file_of files name)

-- what is told of a source that is back
abbrev pub kept_source : SourceState → ReturnedSource
kept_source s = returned_source (Some s.left) s.plan.faults

-- what a house in memory tells
abbrev pub house_tale_of : HouseState → HouseTale
house_tale_of h = record {
  contents = bytes_of h.files;
  asks = Some h.asks;
  sources = Some (map kept_source h.sources);
  doors = h.network.doors;
  clocks = Some h.clocks;
  source_faults = h.plan.faults;
  door_faults = h.network.door_faults;
}

-- the source of a file before its first read
abbrev pub source_of : FileState → SourceState
source_of f = record { left = f.bytes; most = f.most; ended = false; plan = fresh f.failing }

-- an ask for a source fails exactly if its number is to fail or no file has that name
abbrev pub ask_fails : HouseState → List ℕ → Bool
ask_fails h name = fails h.plan || is_none (file_of h.files name)

abbrev pub with_ask : HouseState → Asked → Plan → HouseState
with_ask h ask plan = record h { asks = h.asks ++ ask ∷ []; plan = plan }

-- a call of `source`
abbrev pub Asks : Result SourceState Fault → HouseState → HouseState → List ℕ → Type 0
Asks (Ok s) old new name = (ask_fails old name ≡ false)
    × (Some s ≡ option_map source_of (file_of old.files name))
    × (new ≡ with_ask old (asked.Source name) (after_call old.plan))
Asks (Err fault.Failed) old new name = (ask_fails old name ≡ true)
    × (new ≡ with_ask old (asked.Source name) (after_failed_call old.plan))
Asks (Err fault.Memory) old new name = new ≡ old

-- what an ask gives, unless memory runs out
abbrev pub given_for : HouseState → List ℕ → Option SourceState
given_for h name = if fails h.plan then None else option_map source_of (file_of h.files name)

-- the house with another network
abbrev pub with_network : HouseState → NetworkState → HouseState
with_network h network = record h { network = network }

-- a call of `door`: what the network made of it, and the ask
abbrev pub AsksNetwork : {D : Type 0} → Result D Fault → HouseState → HouseState → Asked → Type 0
AsksNetwork (Ok d) old new ask = new ≡ with_network (with_ask old ask old.plan) new.network
AsksNetwork (Err fault.Failed) old new ask = new ≡ with_network (with_ask old ask old.plan) new.network
AsksNetwork (Err fault.Memory) old new ask = new ≡ with_network old new.network

-- a source comes back
abbrev pub with_source : HouseState → SourceState → HouseState
with_source h s = record h {
  plan = if s.plan.faults == 0 then h.plan else after_fault h.plan;
  sources = h.sources ++ s ∷ [];
}

-- a clock comes back
abbrev pub with_clock : HouseState → ClockTale → HouseState
with_clock h clock = record h { clocks = h.clocks ++ clock ∷ [] }

-- a call of `put_back`; a door goes to the network
abbrev pub Keeps : {D : Type 0} → HouseState → HouseState → Back SourceState D ClockTale → Type 0
Keeps old new (back.Source s) = new ≡ with_source old s
Keeps old new (back.Door d) = new ≡ with_network old new.network
Keeps old new (back.Clock c) = new ≡ with_clock old c
