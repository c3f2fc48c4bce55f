-- What a client's part of a load does.
use Rattle.std.specs.Prelude.{List}
use Rattle.gate_outside.specs.Clocks.{ClockTale}
use Rattle.gate_outside.specs.Dials.{DialTale}
use Rattle.thread_outside.specs.DialledDoors.{door_dial_tale}
use Rattle.client_run.specs.Histories.{Visit}
use Rattle.load_client.specs.Ended.{HasEnded}
use Rattle.load_parts.specs.declared.client_part.ClientPart.{ClientPart}
use Rattle.load_parts.specs.declared.client_part.ClientDone.{ClientDone}

module _ {C R : Type 0} (clock_tale : C → ClockTale) where
  -- the client of the part has ended after some visits, by a dial that began as the part's
  abbrev pub ClientGives : ClientPart C R → ClientDone C → Type 0
  ClientGives part done = (vs : List Visit) × (dial_after : DialTale)
      × HasEnded part.client vs (door_dial_tale part.dial) dial_after (clock_tale part.clock) (clock_tale done.clock) done.ended
