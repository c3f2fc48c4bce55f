-- Doors of WebSocket over TCP.
use Rattle.std.specs.Prelude.{◌≡◌, ◌+◌, ◌==◌, ℕ, Bool, true, false, Result, Ok, Err, MatchBool}
use Rattle.std.specs.declared.option.Option.TheVariants.{Some, None}
use Rattle.gate_outside.specs.declared.accepted.Accepted.{Accepted}
use Rattle.gate_outside.specs.declared.accepted.Accepted.TheVariants as accepted
use Rattle.gate_outside.specs.declared.faults.Fault.{Fault}
use Rattle.gate_outside.specs.declared.faults.Fault.TheVariants.{Failed, Memory}
use Rattle.gate_outside.specs.Causes.{one_more}
use Rattle.gate_outside.specs.Doors.{DoorTale}
use Rattle.link_edge.specs.SocketLinks.{SocketLinkState, new_socket_link}

-- how many links were given and are given in all, whether it has ended, and how often it has failed
pub record SocketDoorState : Type 0 where
  pub given : ℕ
  pub accepts : ℕ
  pub ended : Bool
  pub faults : ℕ

-- a door before its first call
abbrev pub new_socket_door : ℕ → SocketDoorState
new_socket_door accepts = record { given = 0; accepts = accepts; ended = false; faults = 0 }

-- what a door tells
abbrev pub door_tale : SocketDoorState → DoorTale
door_tale d = record {
  given = d.given;
  ended = d.ended;
  accepts = Some d.accepts;
  waits = None;
  returned = None;
}

-- what a call of `accept` leaves while links are left to give
abbrev pub LetsNext : SocketDoorState → SocketDoorState → Result (Accepted SocketLinkState) Fault → Type 0
LetsNext old new (Ok (accepted.Link link)) = (link ≡ new_socket_link) × (new ≡ record old { given = old.given + 1 })
LetsNext old new (Ok accepted.NotYet) = new ≡ old
LetsNext old new (Ok accepted.Ended) = ⊥
LetsNext old new (Err Failed) = new ≡ record old { faults = one_more old.faults }
LetsNext old new (Err Memory) = new ≡ old

-- a call of `accept`: a door has ended once it has given all its links
abbrev pub Lets : SocketDoorState → SocketDoorState → Result (Accepted SocketLinkState) Fault → Type 0
Lets old new result = MatchBool (old.given == old.accepts)
    ((result ≡ Ok accepted.Ended) × (new ≡ record old { ended = true }))
    (LetsNext old new result)
