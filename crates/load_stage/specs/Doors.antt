-- The doors of the workers of a load and the dials of its clients.
use Rattle.std.specs.Prelude.{◌≡◌, ℕ, ◌/◌, ◌%◌, List, [], Some, option_map, slice_get, length}
use Rattle.std.specs.Global.{Global}
use Rattle.crossbeam_queue.specs.SegTies.{SegId}
use Rattle.thread_outside.specs.DialledDoors.{DialledState, DoorDialState, new_dialled, new_door_dial}
use Rattle.run_stage.specs.Dealing.{AreFrom}

-- the door of the worker with this number, which has four dials and takes their calls from its queue
abbrev pub IsDoorOf : List (SegId Global) → ℕ → DialledState → Type 0
IsDoorOf queues worker door = option_map (λ queue. new_dialled queue 4 []) (slice_get queues worker) ≡ Some door

-- the dial of the client with this number: the clients dial the doors in turn
abbrev pub IsDialOf : List (SegId Global) → ℕ → DoorDialState → Type 0
IsDialOf queues client dial = option_map (λ queue. new_door_dial queue (client / 3)) (slice_get queues (client % 3)) ≡ Some dial

-- ---- internal: cited by private functions only

-- the doors of three workers, and the dials of twelve clients
pub record HasDoors (doors : List DialledState) (dials : List DoorDialState) : Type 0 where
  pub queues : List (SegId Global)
  pub three : length queues ≡ 3
  pub doors_are : AreFrom (IsDoorOf queues) 0 3 doors
  pub dials_are : AreFrom (IsDialOf queues) 0 12 dials
