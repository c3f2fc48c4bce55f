-- The step of a client: what it receives, what it leaves, and what the client does. Laws over any
-- schedule name it.
use Rattle.std.specs.Prelude.{◌≡◌, ℕ, List, [], Option, Some, None, option_to_list}
use Rattle.std.specs.Result.{result_ok}
use Rattle.dispatch_types.specs.declared.dispatch.Dispatch.{Dispatch}
use Rattle.dispatch_types.specs.declared.dispatch.Dispatch.TheVariants.{Resumed as ResumedDispatch}
use Rattle.dispatch_types.specs.Fold.{folded}
use Rattle.gateway_frames.specs.declared.out.Out.TheVariants.{Hello, Ack, Invalid, Reconnect, Resumed}
use Rattle.client_cache.specs.Cached.{Cached, held_of}
use Rattle.client_session.specs.declared.act.Act.{Act}
use Rattle.client_session.specs.declared.received.Received.{Received}
use Rattle.client_session.specs.declared.received.Received.TheVariants as payload
use Rattle.client_session.specs.declared.fault.ClientFault.{ClientFault}
use Rattle.client_session.specs.declared.fault.ClientFault.TheVariants.{Memory}
use Rattle.client_session.specs.State.{ClientState}
use Rattle.client_session.specs.Table.{after_dispatch, after_other, other_acts, after_loss, loss_answer, after_beat, beat_act}

-- what a client is told: a payload at a moment; the end of its connection, with the code if it was
-- closed with one; and its caller's question, at a moment, whether a heartbeat is due
pub data Event : Type 0 where
  Receives : (received : Received) (now : ℕ) → Event
  Loses : (code : Option ℕ) → Event
  Asks : (now : ℕ) → Event

module _ {A : Type 0} where
  -- what becomes of all but what is kept of the dispatches
  abbrev pub after : ClientState A → Event → ClientState A
  after c (Receives (payload.Dispatch dispatch number) now) = after_dispatch c dispatch number
  after c (Receives (payload.Other out) now) = after_other c out now
  after c (Loses code) = after_loss c code
  after c (Asks now) = after_beat c now

  -- what the client does, in order
  abbrev pub acts : ClientState A → Event → List Act
  acts c (Receives (payload.Dispatch dispatch number) now) = []
  acts c (Receives (payload.Other out) now) = other_acts c out
  acts c (Loses code) = option_to_list (result_ok (loss_answer c code))
  acts c (Asks now) = option_to_list (beat_act c now)

-- the dispatch that comes, if one does
abbrev pub dispatch_in : Received → Option Dispatch
dispatch_in (payload.Dispatch dispatch number) = Some dispatch
dispatch_in (payload.Other (Hello interval_ms)) = None
dispatch_in (payload.Other Ack) = None
dispatch_in (payload.Other (Invalid resumable)) = None
dispatch_in (payload.Other Reconnect) = None
dispatch_in (payload.Other (Resumed number)) = Some ResumedDispatch

abbrev pub dispatch_of : Event → Option Dispatch
dispatch_of (Receives received now) = dispatch_in received
dispatch_of (Loses code) = None
dispatch_of (Asks now) = None

-- what is held of each guild is folded with the dispatch, by these intents
abbrev pub Folds : ℕ → Cached → Option Dispatch → Cached → Type 0
Folds intents old None new = new ≡ old
Folds intents old (Some dispatch) new =
    (g : ℕ) → held_of new g ≡ folded intents g (held_of old g) dispatch

-- THE STEP: what it leaves, what is then held of each guild, and what the client does
abbrev pub StepsTo : ClientState Cached → Event → ClientState Cached → List Act → Type 0
StepsTo old event new done =
    (new ≡ record (after old event) { kept = new.kept })
    × Folds old.intents old.kept (dispatch_of event) new.kept
    × (done ≡ acts old event)

-- what a call leaves that runs out of memory
abbrev pub Keeps : ClientState Cached → ClientState Cached → ClientFault → Type 0
Keeps old new fault = (fault ≡ Memory) × (new ≡ old)
