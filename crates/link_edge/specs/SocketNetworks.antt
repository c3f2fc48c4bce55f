-- The network of WebSocket over TCP.
use Rattle.std.specs.Prelude.{ℕ, Result, Ok, Err}
use Rattle.std.specs.declared.option.Option.TheVariants.{None}
use Rattle.gate_outside.specs.declared.faults.Fault.{Fault}
use Rattle.gate_outside.specs.declared.faults.Fault.TheVariants.{Failed, Memory}
use Rattle.gate_outside.specs.Causes.{one_more}
use Rattle.gate_outside.specs.Dials.{DialTale, dry_after_link}
use Rattle.gate_outside.specs.Houses.{HouseTale, no_house}
use Rattle.gate_outside.specs.StdHouses.{count_with}
use Rattle.link_edge.specs.SocketLinks.{SocketLinkState}

-- the dry run, and how often a dial and an ask for a door failed
pub record SocketNetworkState : Type 0 where
  pub dry_run : ℕ
  pub dial_faults : ℕ
  pub door_faults : ℕ

-- a network before its first call
abbrev pub new_socket_network : SocketNetworkState
new_socket_network = record { dry_run = 0; dial_faults = 0; door_faults = 0 }

-- what it tells as a dial
abbrev pub dial_tale : SocketNetworkState → DialTale
dial_tale n = record { dry_run = n.dry_run; urls = None; returned = None }

-- what it tells of its doors
abbrev pub doors_of : SocketNetworkState → HouseTale
doors_of n = record no_house { door_faults = n.door_faults }

-- after a dial
abbrev pub after_dial : {L : Type 0} → SocketNetworkState → Result L Fault → SocketNetworkState
after_dial n (Ok link) = n
after_dial n (Err Failed) = record n { dry_run = one_more n.dry_run; dial_faults = one_more n.dial_faults }
after_dial n (Err Memory) = n

-- after a link has come back
abbrev pub with_link : SocketNetworkState → SocketLinkState → SocketNetworkState
with_link n l = record n { dry_run = dry_after_link n.dry_run l.gave_text l.faults }

-- after an ask for a door
abbrev pub after_door : {D : Type 0} → SocketNetworkState → Result D Fault → SocketNetworkState
after_door n (Ok door) = n
after_door n (Err Failed) = record n { door_faults = one_more n.door_faults }
after_door n (Err Memory) = n

-- after a door with so many faults has come back
abbrev pub with_door : SocketNetworkState → ℕ → SocketNetworkState
with_door n faults = record n { door_faults = count_with n.door_faults faults }
