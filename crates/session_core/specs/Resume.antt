-- Which session resumes, and from where (Gateway, Resuming).
use Rattle.std.specs.Prelude.{ℕ, ◌-◌, List, [], ◌∷◌, ◌++◌, not, ◌==◌, ◌&&◌, nat_lt, Option, Some, None, if◌then◌else◌, length, map, decimal, codes}
use Rattle.std.specs.List.{find}
use Rattle.std.specs.Str.{bytes_eq}
use Rattle.gateway_frames.specs.declared.frame.Resume.{Resume}
use Rattle.gateway_frames.specs.declared.out.Out.TheVariants as out
use Rattle.replay_ring.specs.Replay.{Replay, texts_after}
use Rattle.session_core.specs.declared.reply.Reply.{Reply}
use Rattle.session_core.specs.declared.reply.Reply.TheVariants.{Send, Text, Close}
use Rattle.session_core.specs.State.{State, Session, Attached, Detached, is_live, attached, gone}

-- the id of a session: of its worker, and of its number there
abbrev pub session_id : ℕ → ℕ → List ℕ
session_id worker n = codes "w" ++ (decimal worker ++ (codes "s" ++ decimal n))

-- the answer to a resume: the session cannot be resumed, it has not reached the number, or it resumes
pub data ResumeAnswer : Type 0 where
  NotResumable : ResumeAnswer
  InvalidSeq : ResumeAnswer
  Resumed : (number : ℕ) (older : Option ℕ) (seq : ℕ) (held : Replay) → ResumeAnswer

-- a connection that is closed since another has taken its session
abbrev pub older_closes : Option ℕ → List Reply
older_closes None = []
older_closes (Some conn) = Close conn 4000 ∷ []

-- the texts with numbers above `seq`, as they were sent, and then RESUMED with the last number
abbrev pub resume_replies : ℕ → Option ℕ → ℕ → Replay → List Reply
resume_replies conn older seq held = older_closes older ++ (map (λ text. Text conn text) (texts_after held seq) ++ Send conn (out.Resumed held.last) ∷ [])

module _ {A : Type 0} where
  -- the live session of an id
  abbrev pub session_named : List ℕ → State A → Option (Session A)
  session_named id s = find (λ (x : Session A). is_live x.condition && bytes_eq (session_id s.worker x.number) id) s.sessions

  -- a session's older connection gone
  abbrev pub cut : ℕ → Option ℕ → State A → State A
  cut now None s = s
  cut now (Some conn) s = gone conn (Detached now) s

  abbrev pub joined : ℕ → ℕ → Session A → Session A
  joined conn number x = if is_live x.condition && (x.number == number) then record x { condition = Attached conn } else x

  abbrev pub attached_to : ℕ → ℕ → State A → State A
  attached_to conn number s = record s { sessions = map (joined conn number) s.sessions }

  -- a session resumes, on another connection
  abbrev pub resumed : ℕ → ℕ → ℕ → Option ℕ → State A → State A
  resumed conn now number older s = attached_to conn number (cut now older s)

-- `replay` is what is kept of a session's dispatches
module _ {A : Type 0} (replay : A → Replay) where
  -- the session of the id, by its token, by the last number that it had, and by the first one that is not held
  abbrev pub resume_of : Resume → Session A → ResumeAnswer
  resume_of r x =
      let held : Replay = replay x.sent in
      if not (bytes_eq x.token r.token) then NotResumable
      else (if nat_lt held.last r.seq then InvalidSeq
      else (if nat_lt r.seq (held.last - length held.held) then NotResumable
      else Resumed x.number (attached x.condition) r.seq held))

  abbrev pub resume_by : Resume → Option (Session A) → ResumeAnswer
  resume_by r None = NotResumable
  resume_by r (Some x) = resume_of r x

  abbrev pub resume_answer : State A → Resume → ResumeAnswer
  resume_answer s r = resume_by r (session_named r.session s)
