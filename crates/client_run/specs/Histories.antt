-- What a client is told and what is done for it, connection by connection (Gateway, Connection
-- Lifecycle).
use Rattle.std.specs.Prelude.{◌≡◌, ℕ, List, [], ◌∷◌, flat_map, map, filter, length, Bool, true, false, ◌&&◌, Option, Some, None, is_some, option_to_list}
use Rattle.intent_set.specs.declared.kind.Kind.TheVariants.{Resumed as ResumedKind}
use Rattle.dispatch_types.specs.declared.dispatch.Dispatch.{Dispatch}
use Rattle.dispatch_types.specs.Kinds.{kind_of}
use Rattle.gate_outside.specs.declared.sending.Sending.{Sending}
use Rattle.gate_outside.specs.declared.sending.Sending.TheVariants as sending
use Rattle.gateway_frames.specs.declared.out.Out.TheVariants.{Hello, Ack, Invalid, Reconnect, Resumed}
use Rattle.client_cache.specs.Cached.{Cached}
use Rattle.client_session.specs.declared.act.Act.{Act}
use Rattle.client_session.specs.declared.act.Act.TheVariants.{Send, Hang, DialFirst, DialResume}
use Rattle.client_session.specs.declared.received.Received.{Received}
use Rattle.client_session.specs.declared.received.Received.TheVariants as payload
use Rattle.client_session.specs.State.{ClientState}
use Rattle.client_session.specs.Step.{Event, Receives, Loses, Asks, StepsTo, dispatch_of}
use Rattle.client_run.specs.Watched.{dispatch_line}
use Rattle.client_run.specs.declared.target.Target.{Target}
use Rattle.client_run.specs.declared.target.Target.TheVariants.{First, Resume}

-- an event that the client was told, with what it had its caller do
pub record Told : Type 0 where
  pub event : Event
  pub acts : List Act

abbrev pub told : Event → List Act → Told
told event acts = record { event = event; acts = acts }

-- how a connection ended
pub data End : Type 0 where
  -- the client left it or lost it, as the last event says
  Left : End
  -- the watcher had it dropped, of which the client was told last
  Dropped : End
  -- it was closed with 1000
  Finished : End
  -- it was dropped, and the client was not told
  Stopped : End
  -- its last text is no payload
  Unread : (text : List ℕ) → End
  -- memory ran out, perhaps before the client was told its last text
  Cut : (text : Option (List ℕ)) → End

-- a URL that was dialled: the dial failed, or it gave a link
pub data Visit : Type 0 where
  Missed : (url : List ℕ) → Visit
  Opened : (url : List ℕ) (ts : List Told) (end : End) → Visit

-- ---- what stands in a history

abbrev pub event_of : Told → Event
event_of t = t.event

abbrev pub events : List Told → List Event
events ts = map event_of ts

-- the dispatches that the client was told, in order
abbrev pub dispatches : List Told → List Dispatch
dispatches ts = flat_map (λ (t : Told). option_to_list (dispatch_of t.event)) ts

-- the line of the dispatch that comes, if one does
abbrev pub line_in : Received → Option (List ℕ)
line_in (payload.Dispatch dispatch number) = Some (dispatch_line number (kind_of dispatch))
line_in (payload.Other (Hello interval_ms)) = None
line_in (payload.Other Ack) = None
line_in (payload.Other (Invalid resumable)) = None
line_in (payload.Other Reconnect) = None
line_in (payload.Other (Resumed number)) = Some (dispatch_line number ResumedKind)

abbrev pub line_of : Event → Option (List ℕ)
line_of (Receives received now) = line_in received
line_of (Loses code) = None
line_of (Asks now) = None

-- the lines of the dispatches that come, in order
abbrev pub lines : List Event → List (List ℕ)
lines es = flat_map (λ (e : Event). option_to_list (line_of e)) es

-- what goes over the link by an act
abbrev pub sending_of : Act → List Sending
sending_of (Send text) = sending.Text text ∷ []
sending_of (Hang code) = sending.Close code ∷ []
sending_of DialFirst = []
sending_of DialResume = []

abbrev pub sendings : List Act → List Sending
sendings acts = flat_map sending_of acts

abbrev pub given : List Told → List Sending
given ts = flat_map (λ (t : Told). sendings t.acts) ts

-- whether these are turns: the client is asked whether a heartbeat is due, and then told at most one
-- text; the loss of its connection is the last that it is told
abbrev pub are_turns : Bool → List Event → Bool
are_turns may_hear [] = true
are_turns may_hear (Asks now ∷ es) = are_turns true es
are_turns may_hear (Receives payload now ∷ es) = may_hear && are_turns false es
are_turns may_hear (Loses code ∷ []) = true
are_turns may_hear (Loses code ∷ e ∷ es) = false

-- where the client connects next by these acts
abbrev pub dial_in : List Act → Option Target
dial_in [] = None
dial_in (Send text ∷ acts) = dial_in acts
dial_in (Hang code ∷ acts) = dial_in acts
dial_in (DialFirst ∷ acts) = Some First
dial_in (DialResume ∷ acts) = Some Resume

-- by what it was told last
abbrev pub left_to : List Told → Option Target
left_to [] = None
left_to (t ∷ []) = dial_in t.acts
left_to (t ∷ u ∷ ts) = left_to (u ∷ ts)

-- a connection that is lost without a close
abbrev pub is_loss : Event → Bool
is_loss (Asks now) = false
is_loss (Receives payload now) = false
is_loss (Loses None) = true
is_loss (Loses (Some code)) = false

-- whether that is what the client was told last
abbrev pub lost_last : List Told → Bool
lost_last [] = false
lost_last (t ∷ []) = is_loss t.event
lost_last (t ∷ u ∷ ts) = lost_last (u ∷ ts)

abbrev pub url_of : Visit → List ℕ
url_of (Missed url) = url
url_of (Opened url ts end) = url

abbrev pub told_of : Visit → List Told
told_of (Missed url) = []
told_of (Opened url ts end) = ts

-- all that the client was told
abbrev pub all_told : List Visit → List Told
all_told vs = flat_map told_of vs

-- the dial failed, or the client left the connection for another
abbrev pub is_left : Visit → Bool
is_left (Missed url) = true
is_left (Opened url ts Left) = is_some (left_to ts)
is_left (Opened url ts Dropped) = is_some (left_to ts)
is_left (Opened url ts Finished) = false
is_left (Opened url ts Stopped) = false
is_left (Opened url ts (Unread text)) = false
is_left (Opened url ts (Cut text)) = false

abbrev pub is_dropped : Visit → Bool
is_dropped (Missed url) = false
is_dropped (Opened url ts Left) = false
is_dropped (Opened url ts Dropped) = true
is_dropped (Opened url ts Finished) = false
is_dropped (Opened url ts Stopped) = false
is_dropped (Opened url ts (Unread text)) = false
is_dropped (Opened url ts (Cut text)) = false

-- how often the watcher had a connection dropped
abbrev pub dropped : List Visit → ℕ
dropped vs = length (filter is_dropped vs)

-- ---- the client steps by what it is told, and does what it says

abbrev pub StepsAll : ClientState Cached → List Told → ClientState Cached → Type 0
StepsAll old [] new = new ≡ old
StepsAll old (t ∷ ts) new = (mid : ClientState Cached) × (StepsTo old t.event mid t.acts × StepsAll mid ts new)
