-- What a resume is answered, and what it leaves (Gateway, Resuming).
use Rattle.std.specs.Prelude.{◌≡◌, ℕ, ◌-◌, ◌<◌, ◌≤◌, List, [], ◌∷◌, ◌++◌, true, false, Some, None, Ok, length, map, drop}
use Rattle.dispatch_types.specs.declared.dispatch.Dispatch.{Dispatch}
use Rattle.gateway_frames.specs.declared.frame.Resume.{Resume}
use Rattle.gateway_frames.specs.declared.frame.Frame.TheVariants as frame
use Rattle.gateway_frames.specs.declared.out.Out.TheVariants.{Invalid, Resumed}
use Rattle.gateway_frames.specs.Read.{frame_of}
use Rattle.session_core.specs.State.{Session, Attached, attached, has_connection, has_session}
use Rattle.session_core.specs.Rate.{is_rated}
use Rattle.session_core.specs.Resume.{session_named}
use Rattle.world_law.specs.Sent.{Sent, dispatches}
use Rattle.world_law.specs.Outputs.{Output, Says, Closes, sends}
use Rattle.world_law.specs.Wants.{numbered}
use Rattle.world_law.specs.Frames.{older_sends}
use Rattle.world_law.specs.Inputs.{Frame, taken, outputs}
use Rattle.world_law.specs.Model.{Worker, replay, in_model}

-- a resume that is judged by what it says: its connection is open, has no session, and has not sent too many frames
pub record Reaches (w : Worker) (conn : ℕ) (text : List ℕ) (r : Resume) : Type 0 where
  pub connected : has_connection conn w.core ≡ true
  pub few : is_rated conn w.now w.core ≡ false
  pub reads : frame_of text ≡ Ok (frame.Resume r)
  pub free : has_session conn w.core ≡ false

-- the session may not be resumed, and every session stays as it is
abbrev pub IsDenied : Worker → ℕ → Worker → List Output → Type 0
IsDenied old conn new out = (out ≡ Says conn (Invalid false) ∷ []) × (new.core.sessions ≡ old.core.sessions)

-- the connection is closed for its number, and every session stays as it is
abbrev pub IsBeyond : Worker → ℕ → Worker → List Output → Type 0
IsBeyond old conn new out = (out ≡ Closes conn 4007 ∷ []) × (new.core.sessions ≡ old.core.sessions)

abbrev pub sent_of : Session Sent → Sent
sent_of x = x.sent

module _ (text : ℕ → Dispatch → List ℕ) where
  -- the numbers from which a session can go on: what follows them is held, and they are none to come
  abbrev pub Covers : Sent → ℕ → Type 0
  Covers sent seq = (length (dispatches sent) - length (replay text sent).held ≤ seq) × (seq ≤ length (dispatches sent))

-- a session resumes from a number, on this connection
pub record GoesOn (text : ℕ → Dispatch → List ℕ) (old : Worker) (conn seq : ℕ) (x : Session Sent) (new : Worker) (out : List Output) : Type 0 where
  -- its older connection is closed, the dispatches after the number go out with the numbers that they had, then RESUMED with the last
  pub outputs : out ≡ older_sends (attached x.condition) ++ (sends text (Attached conn) seq (drop seq (dispatches x.sent)) ++ Says conn (Resumed (length (dispatches x.sent))) ∷ [])
  pub here : numbered x.number new.core.sessions ≡ Some (record x { condition = Attached conn })
  -- no session was sent a dispatch: RESUMED is none
  pub sent : map sent_of new.core.sessions ≡ map sent_of old.core.sessions

-- by the session of its id, its token, the last number and the first that is not held, in this order
pub record ResumeHolds (text : ℕ → Dispatch → List ℕ) (old : Worker) (conn : ℕ) (r : Resume) (new : Worker) (out : List Output) : Type 0 where
  pub unknown : session_named r.session old.core ≡ None → IsDenied old conn new out
  pub other : (x : Session Sent) → session_named r.session old.core ≡ Some x → ¬ (x.token ≡ r.token) → IsDenied old conn new out
  pub beyond : (x : Session Sent) → session_named r.session old.core ≡ Some x → x.token ≡ r.token
      → length (dispatches x.sent) < r.seq → IsBeyond old conn new out
  pub below : (x : Session Sent) → session_named r.session old.core ≡ Some x → x.token ≡ r.token
      → r.seq < length (dispatches x.sent) - length (replay text x.sent).held → IsDenied old conn new out
  pub covered : (x : Session Sent) → session_named r.session old.core ≡ Some x → x.token ≡ r.token
      → Covers text x.sent r.seq → GoesOn text old conn r.seq x new out

-- a resume that is judged by its content is granted exactly if a live session has its id and token and covers its number
unfoldable pub EachResumeHolds : Type 0
EachResumeHolds = (text : ℕ → Dispatch → List ℕ) (w : Worker) (conn : ℕ) (received : List ℕ) (r : Resume) → Reaches w conn received r
    → ResumeHolds text w conn r (taken (in_model text) w (Frame conn received)) (outputs (in_model text) w (Frame conn received))
