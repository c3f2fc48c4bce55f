-- What becomes of a client by what comes, and what it does, row by row (Gateway, Connection Lifecycle).
use Rattle.std.specs.Prelude.{ℕ, ◌+◌, ◌==◌, nat_le, List, [], ◌∷◌, Bool, true, false, Option, Some, None, option_map, if◌then◌else◌, Result, Ok, Err}
use Rattle.serde_json.specs.Written.{compact_text}
use Rattle.dispatch_types.specs.declared.dispatch.Dispatch.{Dispatch}
use Rattle.dispatch_types.specs.declared.dispatch.Dispatch.TheVariants.{Ready, Resumed as ResumedDispatch}
use Rattle.dispatch_types.specs.Fold.{contains}
use Rattle.gateway_frames.specs.declared.frame.Frame.{Frame}
use Rattle.gateway_frames.specs.declared.frame.Frame.TheVariants.{Heartbeat as HeartbeatFrame, Identify, Resume}
use Rattle.gateway_frames.specs.declared.out.Out.{Out as AnOut}
use Rattle.gateway_frames.specs.declared.out.Out.TheVariants.{Hello, Ack, Invalid, Reconnect, Resumed}
use Rattle.gateway_frames.specs.Written.{frame_data}
use Rattle.client_session.specs.declared.session.Session.{Session}
use Rattle.client_session.specs.declared.heartbeat.Heartbeat.{Heartbeat}
use Rattle.client_session.specs.declared.act.Act.{Act}
use Rattle.client_session.specs.declared.act.Act.TheVariants.{Send, Hang, DialFirst, DialResume}
use Rattle.client_session.specs.declared.fault.ClientFault.{ClientFault}
use Rattle.client_session.specs.declared.fault.ClientFault.TheVariants.{Out}
use Rattle.client_session.specs.State.{ClientState}

-- ---- what it sends (Gateway Events, Send Events)

abbrev pub identify : List ℕ → ℕ → Frame
identify token intents = Identify (record { token = token; intents = intents; large_threshold = None; shard = None })

abbrev pub resume : List ℕ → Session → Frame
resume token s = Resume (record { token = token; session = s.id; seq = s.number })

-- Resume with a session, else Identify
abbrev pub first_frame : List ℕ → ℕ → Option Session → Frame
first_frame token intents None = identify token intents
first_frame token intents (Some s) = resume token s

-- with the number of the last dispatch that was read, null without a session
abbrev pub heartbeat : Option Session → Frame
heartbeat session = HeartbeatFrame (option_map (λ (s : Session). s.number) session)

abbrev pub frame_text : Frame → List ℕ
frame_text frame = compact_text (frame_data frame)

abbrev pub sends : Frame → Act
sends frame = Send (frame_text frame)

-- ---- where it connects next: with a session to the URL that READY gave

abbrev pub url_of : Session → List ℕ
url_of s = s.url

abbrev pub dial : Option Session → Act
dial None = DialFirst
dial (Some s) = DialResume

-- ---- the codes after which a client may not connect again (Opcodes and Status Codes, Gateway Close Event Codes)

-- authentication failed, invalid shard, sharding required, invalid API version, invalid intents, disallowed intents
abbrev pub is_final : ℕ → Bool
is_final code = contains code (4004 ∷ 4010 ∷ 4011 ∷ 4012 ∷ 4013 ∷ 4014 ∷ [])

-- ---- dispatches: their number is held, and READY begins the session anew (Gateway Events, Ready)

abbrev pub begun : Dispatch → ℕ → Option Session
begun (Ready ready) number = Some (record { id = ready.session; url = ready.url; number = number })
begun _ number = None

abbrev pub session_after : Option Session → ℕ → Option Session → Option Session
session_after None number session = option_map (λ (s : Session). record s { number = number }) session
session_after (Some begun) number session = Some begun

-- ---- heartbeats: due if the interval has passed since Hello or the last one (Gateway, Sending Heartbeats)

abbrev pub is_due_at : Option Heartbeat → ℕ → Bool
is_due_at None now = false
is_due_at (Some h) now = nat_le (h.since + h.interval_ms) now

module _ {A : Type 0} where
  -- ---- changes

  abbrev pub forgotten : ClientState A → ClientState A
  forgotten c = record c { session = None }

  -- no heartbeat is due until the next Hello
  abbrev pub unlinked : ClientState A → ClientState A
  unlinked c = record c { heartbeat = None }

  abbrev pub linked : ClientState A → ℕ → ℕ → ClientState A
  linked c interval_ms now = record c { heartbeat = Some (record { interval_ms = interval_ms; since = now }) }

  -- the interval counts from now
  abbrev pub beaten : ClientState A → ℕ → ClientState A
  beaten c now = record c { heartbeat = option_map (λ (h : Heartbeat). record h { since = now }) c.heartbeat }

  -- ---- a dispatch

  abbrev pub after_dispatch : ClientState A → Dispatch → ℕ → ClientState A
  after_dispatch c dispatch number = record c { session = session_after (begun dispatch number) number c.session }

  -- ---- another payload; RESUMED counts as the dispatch that it is

  abbrev pub first_of : ClientState A → Frame
  first_of c = first_frame c.token c.intents c.session

  abbrev pub after_other : ClientState A → AnOut → ℕ → ClientState A
  after_other c (Hello interval_ms) now = linked c interval_ms now
  after_other c Ack now = c
  after_other c (Invalid true) now = c
  after_other c (Invalid false) now = forgotten c
  after_other c Reconnect now = unlinked c
  after_other c (Resumed number) now = after_dispatch c ResumedDispatch number

  abbrev pub other_acts : ClientState A → AnOut → List Act
  other_acts c (Hello interval_ms) = sends (first_of c) ∷ []
  other_acts c Ack = []
  other_acts c (Invalid true) = sends (first_of c) ∷ []
  other_acts c (Invalid false) = sends (identify c.token c.intents) ∷ []
  other_acts c Reconnect = Hang 4000 ∷ dial c.session ∷ []
  other_acts c (Resumed number) = []

  -- ---- the end of a connection
  -- 4007: the session has not had as many dispatches as the client said, so it is forgotten

  abbrev pub after_loss : ClientState A → Option ℕ → ClientState A
  after_loss c None = unlinked c
  after_loss c (Some code) = if is_final code then c else (if code == 4007 then forgotten (unlinked c) else unlinked c)

  abbrev pub loss_answer : ClientState A → Option ℕ → Result Act ClientFault
  loss_answer c None = Ok (dial c.session)
  loss_answer c (Some code) = if is_final code then Err (Out code) else (if code == 4007 then Ok DialFirst else Ok (dial c.session))

  -- ---- the question whether a heartbeat is due

  abbrev pub is_due : ClientState A → ℕ → Bool
  is_due c now = is_due_at c.heartbeat now

  abbrev pub after_beat : ClientState A → ℕ → ClientState A
  after_beat c now = if is_due c now then beaten c now else c

  abbrev pub beat_act : ClientState A → ℕ → Option Act
  beat_act c now = if is_due c now then Some (sends (heartbeat c.session)) else None
