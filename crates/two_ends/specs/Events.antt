-- What may happen between two ends, and what becomes of them.
use Rattle.std.specs.Prelude.{◌≡◌, ℕ, List, [], ◌∷◌, ◌++◌, true, false, Option, Some, None, if◌then◌else◌, take}
use Rattle.dispatch_types.specs.declared.dispatch.Dispatch.{Dispatch}
use Rattle.session_core.specs.State.{has_connection}
use Rattle.client_session.specs.declared.received.Received.{Received}
use Rattle.client_session.specs.Received.{IsTextOf}
use Rattle.client_session.specs.Step.{Event as Told, Receives, Loses as LosesLink, Asks, acts}
use Rattle.client_session.specs.Law.{taken}
use Rattle.world_law.specs.Model.{Worker}
use Rattle.world_law.specs.Sends.{AreOff}
use Rattle.world_law.specs.World.{Step, Edits, Looks, Opens, Frames, Loses, Leaves, Ticks}
use Rattle.two_ends.specs.Flights.{Flight, Text, Close, sent_texts, Fits}
use Rattle.two_ends.specs.Ends.{Ends, moved, worker_at}

pub data Event : Type 0 where
  -- the client receives the first text on its way to it, which is this payload, at a moment
  Hears : (received : Received) (now : ℕ) → Event
  -- the worker receives the first text on its way to it
  Arrives : Event
  -- the link is cut: so many texts to each end are left
  Cuts : (to_client to_worker : ℕ) → Event
  -- the client learns that its connection has ended, with the code if the worker closed it
  Learns : (code : Option ℕ) → Event
  -- the client connects anew, to a connection of this number
  Dials : (conn : ℕ) → Event
  -- the client is asked at a moment whether a heartbeat is due
  Beats : (now : ℕ) → Event
  -- anything else happens in the world
  Happens : (step : Step) → Event

-- ---- which may happen

-- what comes is a text of this payload
abbrev pub IsHeard : List Flight → Received → Type 0
IsHeard [] received = Unit {0}
IsHeard (Text text ∷ later) received = IsTextOf text received
IsHeard (Close code ∷ later) received = Unit {0}

-- without a code only after the link was cut; with the code of a close once all texts before it were received
abbrev pub IsEnd : Ends → Option ℕ → Type 0
IsEnd e None = e.is_whole ≡ false
IsEnd e (Some code) = e.to_client ≡ Close code ∷ []

-- no open connection and no session of the worker has this number
abbrev pub IsUnused : ℕ → Option Worker → Type 0
IsUnused conn None = Unit {0}
IsUnused conn (Some w) = (has_connection conn w.core ≡ false) × AreOff conn w.core.sessions

-- a step is no opening, frame or close of the client's connection
abbrev pub IsElsewhere : ℕ → Option ℕ → Step → Type 0
IsElsewhere worker conn (Edits g e) = Unit {0}
IsElsewhere worker conn (Looks n g) = Unit {0}
IsElsewhere worker conn (Opens n c) = n ≡ worker → ¬ (conn ≡ Some c)
IsElsewhere worker conn (Frames n c text) = n ≡ worker → ¬ (conn ≡ Some c)
IsElsewhere worker conn (Loses n c) = Unit {0}
IsElsewhere worker conn (Leaves n c code) = n ≡ worker → ¬ (conn ≡ Some c)
IsElsewhere worker conn (Ticks n now) = Unit {0}

abbrev pub WorkerFits : Option Worker → Type 0
WorkerFits None = Unit {0}
WorkerFits (Some w) = Fits w

abbrev pub MayHappen : Ends → Event → Type 0
MayHappen e (Hears received now) = IsHeard e.to_client received
MayHappen e Arrives = Unit {0}
MayHappen e (Cuts to_client to_worker) = Unit {0}
MayHappen e (Learns code) = (e.is_linked ≡ true) × IsEnd e code
MayHappen e (Dials conn) = (e.is_linked ≡ false) × IsUnused conn (worker_at e.worker e.world)
MayHappen e (Beats now) = Unit {0}
MayHappen e (Happens step) = IsElsewhere e.worker e.conn step

-- ---- what becomes of the two ends

-- the client takes an event, and what it sends gets on its way if the link is whole
abbrev pub told : Ends → Told → Ends
told e event = record e {
  client = taken e.client event;
  to_worker = e.to_worker ++ (if e.is_whole then sent_texts (acts e.client event) else []);
}

module _ (text : ℕ → Dispatch → List ℕ) where
  abbrev pub heard : Ends → Received → ℕ → List Flight → Ends
  heard e received now [] = e
  heard e received now (Text t ∷ later) = told (record e { to_client = later }) (Receives received now)
  heard e received now (Close code ∷ later) = e

  abbrev pub arrived : Ends → Option ℕ → List (List ℕ) → Ends
  arrived e None later = e
  arrived e (Some conn) [] = e
  arrived e (Some conn) (t ∷ later) = moved text (record e { to_worker = later }) (Frames e.worker conn t)

  abbrev pub after : Ends → Event → Ends
  after e (Hears received now) = heard e received now e.to_client
  after e Arrives = arrived e e.conn e.to_worker
  after e (Cuts to_client to_worker) = record e { is_whole = false; to_client = take to_client e.to_client; to_worker = take to_worker e.to_worker }
  after e (Learns code) = record e { client = taken e.client (LosesLink code); is_linked = false; is_whole = false; to_client = [] }
  after e (Dials conn) = moved text (record e { conn = Some conn; is_linked = true; is_whole = true; to_client = []; to_worker = [] }) (Opens e.worker conn)
  after e (Beats now) = told e (Asks now)
  after e (Happens step) = moved text e step

  abbrev pub after_all : Ends → List Event → Ends
  after_all e [] = e
  after_all e (event ∷ events) = after_all (after e event) events

  -- each event may happen when it does, and what the worker has made until then fits
  abbrev pub MayAllHappen : Ends → List Event → Type 0
  MayAllHappen e [] = WorkerFits (worker_at e.worker e.world)
  MayAllHappen e (event ∷ events) = WorkerFits (worker_at e.worker e.world) × (MayHappen e event × MayAllHappen (after e event) events)
