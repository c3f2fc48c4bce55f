-- Networks in memory.
use Rattle.std.specs.Prelude.{◌≡◌, ℕ, List, [], ◌∷◌, ◌++◌, map, ◌==◌, if◌then◌else◌, Result, Ok, Err, MatchBool}
use Rattle.std.specs.declared.option.Option.{Option}
use Rattle.std.specs.declared.option.Option.TheVariants.{Some}
use Rattle.gate_outside.specs.FaultPlans.{Plan, fresh, fails, after_call, after_fault, after_failed_call}
use Rattle.gate_outside.specs.declared.faults.Fault.{Fault}
use Rattle.gate_outside.specs.declared.faults.Fault.TheVariants.{Failed}
use Rattle.gate_outside.specs.Houses.{HouseTale, ReturnedDoor, returned_door, no_house}
use Rattle.thread_outside.specs.MemDials.{DialState}
use Rattle.thread_outside.specs.MemDoors.{DoorState, new_door, door_tale}
use Rattle.thread_outside.specs.MemLinks.{ContentState}

-- what a door of a network is made from: who waits at each call, and the calls that are to fail
pub record DoorContentState : Type 0 where
  pub callers : List (Option ContentState)
  pub failing : List ℕ

-- the doors that are left, which asks for one fail, the doors that are back, and the dial
pub record MemNetworkState : Type 0 where
  pub doors : List DoorContentState
  pub plan : Plan
  pub returned : List DoorState
  pub dial : DialState

abbrev pub new_mem_network : List DoorContentState → DialState → List ℕ → MemNetworkState
new_mem_network doors dial failing = record {
  doors = doors;
  plan = fresh failing;
  returned = [];
  dial = dial;
}

-- what is told of a door that is back
abbrev pub kept_door : DoorState → ReturnedDoor
kept_door d = returned_door (door_tale d) d.plan.faults

-- what a network in memory tells of its doors
abbrev pub doors_of : MemNetworkState → HouseTale
doors_of n = record no_house {
  doors = Some (map kept_door n.returned);
  door_faults = n.plan.faults;
}

-- after an ask that failed
abbrev pub after_failed_ask : MemNetworkState → MemNetworkState
after_failed_ask n = record n { plan = after_failed_call n.plan }

-- an ask that is not to fail gives the next of these doors, and fails if none is left
abbrev pub GivesFrom : List DoorContentState → MemNetworkState → MemNetworkState → ℕ → Result DoorState Fault → Type 0
GivesFrom [] old new accepts result = (result ≡ Err Failed) × (new ≡ after_failed_ask old)
GivesFrom (door ∷ more) old new accepts result = (result ≡ Ok (new_door door.callers accepts door.failing))
    × (new ≡ record old { doors = more; plan = after_call old.plan })

-- a call of `door`
abbrev pub GivesDoor : MemNetworkState → MemNetworkState → ℕ → Result DoorState Fault → Type 0
GivesDoor old new accepts result = MatchBool (fails old.plan)
    ((result ≡ Err Failed) × (new ≡ after_failed_ask old))
    (GivesFrom old.doors old new accepts result)

-- after a door has come back
abbrev pub with_door : MemNetworkState → DoorState → MemNetworkState
with_door n d = record n {
  plan = if d.plan.faults == 0 then n.plan else after_fault n.plan;
  returned = n.returned ++ d ∷ [];
}
