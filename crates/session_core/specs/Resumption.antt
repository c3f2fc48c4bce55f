-- How a resume is answered by what is kept of a session.
use Rattle.std.specs.Prelude.{◌≡◌, ◌==◌, ℕ, option_map, Some}
use Rattle.std.specs.List.{find}
use Rattle.gateway_frames.specs.declared.frame.Resume.{Resume}
use Rattle.replay_ring.specs.Replay.{Replay}
use Rattle.session_core.specs.declared.kept.Session.{Session as KeptSession}
use Rattle.session_core.specs.declared.resume.ResumeAnswer.{ResumeAnswer as GivenAnswer}
use Rattle.session_core.specs.declared.resume.ResumeAnswer.TheVariants as given
use Rattle.session_core.specs.Frames.{as_kept}
use Rattle.session_core.specs.State.{State, attached}
use Rattle.session_core.specs.Kept.{session_of, conn_of}
use Rattle.session_core.specs.Resume.{ResumeAnswer, NotResumable, InvalidSeq, Resumed, resume_of, resume_replies}

-- the answer of the session of a number
abbrev pub answer_of : ℕ → KeptSession → Resume → ResumeAnswer
answer_of number x r = resume_of as_kept r (session_of (number, x))

-- the case of this answer, with its replies on a connection
abbrev pub Matches : ℕ → GivenAnswer → ResumeAnswer → Type 0
Matches conn given.NotResumable NotResumable = Unit {0}
Matches conn given.InvalidSeq InvalidSeq = Unit {0}
Matches conn (given.Resumed session) (Resumed number older seq held) =
    (session.number ≡ number) × ((session.older ≡ older) × (session.replies.items ≡ resume_replies conn older seq held))
Matches conn other answer = ⊥

-- a session that resumes is this one
abbrev pub IsOwn : ℕ → KeptSession → GivenAnswer → Type 0
IsOwn number x given.NotResumable = Unit {0}
IsOwn number x given.InvalidSeq = Unit {0}
IsOwn number x (given.Resumed session) = (session.number ≡ number) × (session.older ≡ conn_of x.condition)

-- a session that resumes exists, on the connection that it still has
abbrev pub IsThere : State Replay → GivenAnswer → Type 0
IsThere s given.NotResumable = Unit {0}
IsThere s given.InvalidSeq = Unit {0}
IsThere s (given.Resumed session) = option_map (λ x. attached x.condition) (find (λ x. x.number == session.number) s.sessions) ≡ Some session.older
