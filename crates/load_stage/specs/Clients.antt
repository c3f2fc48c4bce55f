-- The clients of a load before they run.
use Rattle.std.specs.Prelude.{◌≡◌, ℕ, ◌+◌, ◌/◌, ◌%◌, ◌==◌, List, if◌then◌else◌}
use Rattle.std.specs.Global.{Global}
use Rattle.atomic_table.specs.Seated.{TableId}
use Rattle.crossbeam_queue.specs.SegTies.{SegId}
use Rattle.stop_flag.specs.Flags.{SeatState, new_seat}
use Rattle.load_maker.specs.Edits.{bot_name}
use Rattle.load_client.specs.declared.load_client.LoadClient.{LoadClient}
use Rattle.load_client.specs.Names.{load_goal}
use Rattle.load_parts.specs.declared.client_part.ClientPart.{ClientPart}
use Rattle.run_stage.specs.Dealing.{IsAt}
use Rattle.load_stage.specs.Bots.{worker_url}
use Rattle.load_stage.specs.Doors.{IsDialOf}

-- an even client asks for guilds, members and messages, an odd one for guilds alone
abbrev pub intents_of : ℕ → ℕ
intents_of number = if number % 2 == 0 then 515 else 1

-- the client with this number and this seat: three in a row are one bot, each at another worker
abbrev pub client_with : SeatState → ℕ → LoadClient
client_with seat number = record {
  token = bot_name (1 + number / 3 % 3);
  intents = intents_of number;
  url = worker_url (number % 3);
  goal = load_goal;
  seat = seat;
}

-- the client with this number has its dial to the door of its worker, and a clock of its own
pub record IsClient {C R : Type 0} (flag : TableId) (queues : List (SegId Global)) (clocks : List C) (number : ℕ) (part : ClientPart C R) : Type 0 where
  pub client_is : part.client ≡ client_with (new_seat flag (9 + number)) number
  pub dial_is : IsDialOf queues number part.dial
  pub clock_is : IsAt clocks (3 + number) part.clock
