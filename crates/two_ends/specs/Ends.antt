-- Two ends: a client, and the world of workers one of which serves it (Gateway, Connection Lifecycle).
use Rattle.std.specs.Prelude.{ℕ, List, [], ◌++◌, length, Bool, false, ◌==◌, Option, Some, None, if◌then◌else◌}
use Rattle.std.specs.List.{find}
use Rattle.dispatch_types.specs.declared.dispatch.Dispatch.{Dispatch}
use Rattle.session_core.specs.declared.bot.Bot.{Bot}
use Rattle.client_session.specs.State.{new_client}
use Rattle.client_session.specs.Law.{Model as Client}
use Rattle.world_law.specs.Model.{Worker, in_model}
use Rattle.world_law.specs.Inputs.{Input, Open, Frame, Lost, Closed, Tick, outputs}
use Rattle.world_law.specs.Outputs.{Output}
use Rattle.world_law.specs.World.{World, Step, Edits, Looks, Opens, Frames, Loses, Leaves, Ticks, stepped, first_world, look_at}
use Rattle.two_ends.specs.Flights.{Flight, flights}

pub record Ends : Type 0 where
  -- it keeps all dispatches that it reads
  pub client : Client
  pub world : World
  -- the number of the worker that the client dials
  pub worker : ℕ
  -- the client's latest connection
  pub conn : Option ℕ
  -- the client has not yet learnt that this connection has ended
  pub is_linked : Bool
  -- what either end sends on it gets on its way
  pub is_whole : Bool
  pub to_client : List Flight
  pub to_worker : List (List ℕ)

-- before the first dial
abbrev pub first_ends : List Bot → List ℕ → List (ℕ × List ℕ) → ℕ → List ℕ → ℕ → Ends
first_ends bots guilds places worker token intents = record {
  client = new_client token intents [];
  world = first_world bots guilds places;
  worker = worker;
  conn = None;
  is_linked = false;
  is_whole = false;
  to_client = [];
  to_worker = [];
}

-- the worker of a number
abbrev pub is_worker : ℕ → Worker → Bool
is_worker n w = w.core.worker == n

abbrev pub worker_at : ℕ → World → Option Worker
worker_at n m = find (is_worker n) m.workers

-- what a step gives a worker to take, if it is one of this worker
abbrev pub input_if : ℕ → Worker → Input → Option Input
input_if n w i = if w.core.worker == n then Some i else None

abbrev pub input_of : World → Worker → Step → Option Input
input_of m w (Edits g e) = None
input_of m w (Looks n g) = input_if n w (look_at g (m.logs g) (length (w.logs.seen g)))
input_of m w (Opens n conn) = input_if n w (Open conn)
input_of m w (Frames n conn text) = input_if n w (Frame conn text)
input_of m w (Loses n conn) = input_if n w (Lost conn)
input_of m w (Leaves n conn code) = input_if n w (Closed conn code)
input_of m w (Ticks n now) = input_if n w (Tick now)

module _ (text : ℕ → Dispatch → List ℕ) where
  abbrev pub outputs_of : Worker → Option Input → List Output
  outputs_of w None = []
  outputs_of w (Some i) = outputs (in_model text) w i

  -- what a worker gives out in a step
  abbrev pub given_by : World → Option Worker → Step → List Output
  given_by m None step = []
  given_by m (Some w) step = outputs_of w (input_of m w step)

  -- what a step puts on its way to a connection
  abbrev pub flights_of : Ends → Step → Option ℕ → List Flight
  flights_of e step None = []
  flights_of e step (Some conn) = flights conn (given_by e.world (worker_at e.worker e.world) step)

  -- the world takes a step; what the worker gives out for the client's connection gets on its way if the link is whole
  abbrev pub moved : Ends → Step → Ends
  moved e step = record e {
    world = stepped text e.world step;
    to_client = e.to_client ++ (if e.is_whole then flights_of e step e.conn else []);
  }
