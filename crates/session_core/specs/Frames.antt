-- What a frame is answered: the first row that fits decides (Gateway, Opcodes and Status Codes).
use Rattle.std.specs.Prelude.{◌≡◌, ℕ, ◌+◌, ◌-◌, ◌^◌, ◌==◌, List, [], ◌∷◌, Bool, true, false, Option, Some, None, Result, Ok, Err, if◌then◌else◌}
use Rattle.guild_model.specs.declared.presence.Status.{Status}
use Rattle.dispatch_types.specs.declared.viewer.Viewer.{Viewer}
use Rattle.gateway_frames.specs.declared.frame.Identify.{Identify as Asked}
use Rattle.gateway_frames.specs.declared.frame.VoiceAsk.{VoiceAsk}
use Rattle.gateway_frames.specs.declared.frame.Ask.{Ask as Question}
use Rattle.gateway_frames.specs.declared.frame.Frame.{Frame}
use Rattle.gateway_frames.specs.declared.frame.Frame.TheVariants as frame
use Rattle.gateway_frames.specs.declared.fault.FrameFault.{FrameFault}
use Rattle.gateway_frames.specs.declared.fault.FrameFault.TheVariants.{TooLong, NotJson, BadShape, UnknownOp, Memory}
use Rattle.gateway_frames.specs.declared.out.Out.TheVariants.{Ack, Invalid}
use Rattle.gateway_frames.specs.Read.{frame_of}
use Rattle.session_core.specs.declared.bot.Bot.{Bot}
use Rattle.session_core.specs.declared.fault.SessionFault.{SessionFault}
use Rattle.session_core.specs.declared.fault.SessionFault.TheVariants as fault
use Rattle.session_core.specs.declared.reply.Reply.{Reply}
use Rattle.session_core.specs.declared.reply.Reply.TheVariants as reply
use Rattle.session_core.specs.State.{State, Detached, has_connection, number_on, gone, after_heartbeat, begun}
use Rattle.session_core.specs.Identify.{identified, viewer_of}
use Rattle.session_core.specs.Rate.{is_rated, frame_counted}
use Rattle.session_core.specs.Resume.{ResumeAnswer, NotResumable, InvalidSeq, Resumed, resume_answer, resumed, resume_replies}
use Rattle.replay_ring.specs.Replay.{Replay, fresh}

-- what a client wants in its session: members of a guild, a status of its bot, or a voice channel for it
pub data Want : Type 0 where
  Members : (ask : Question) → Want
  Presence : (status : Status) → Want
  Voice : (ask : VoiceAsk) → Want

-- what a frame does: nothing, an answer to a heartbeat, a close code, a session that begins, a session that cannot
-- be resumed, one that resumes, or a request of a session's client
pub data Move : Type 0 where
  Nothing : Move
  Answers : Move
  ClosesWith : (code : ℕ) → Move
  Begins : (bot : Bot) (viewer : Viewer) → Move
  Denies : Move
  Resumes : (number : ℕ) (older : Option ℕ) (seq : ℕ) (held : Replay) → Move
  Wants : (number : ℕ) (want : Want) → Move

-- the close code for an invalid frame
abbrev pub fault_code : FrameFault → ℕ
fault_code TooLong = 4002
fault_code NotJson = 4002
fault_code BadShape = 4002
fault_code UnknownOp = 4001
fault_code Memory = 4002

-- what Identify does, by who may begin a session
abbrev pub identify_move : Asked → Result Bot ℕ → Move
identify_move i (Ok bot) = Begins bot (viewer_of bot i)
identify_move i (Err code) = ClosesWith code

-- what Resume does, by its answer
abbrev pub resume_move : ResumeAnswer → Move
resume_move NotResumable = Denies
resume_move InvalidSeq = ClosesWith 4007
resume_move (Resumed number older seq held) = Resumes number older seq held

-- on the connection of the session of a number
abbrev pub move_in_session : ℕ → Frame → Move
move_in_session number (frame.Heartbeat seq) = Answers
move_in_session number (frame.Identify i) = ClosesWith 4005
move_in_session number (frame.Resume r) = ClosesWith 4005
move_in_session number (frame.Presence status) = Wants number (Presence status)
move_in_session number (frame.Voice ask) = Wants number (Voice ask)
move_in_session number (frame.Ask ask) = Wants number (Members ask)

-- `replay` is what is kept of a session's dispatches
module _ {A : Type 0} (replay : A → Replay) where
  -- on a connection that has no session yet
  abbrev pub move_before_session : State A → Frame → Move
  move_before_session s (frame.Heartbeat seq) = Answers
  move_before_session s (frame.Identify i) = identify_move i (identified s i)
  move_before_session s (frame.Resume r) = resume_move (resume_answer replay s r)
  move_before_session s (frame.Presence status) = ClosesWith 4003
  move_before_session s (frame.Voice ask) = ClosesWith 4003
  move_before_session s (frame.Ask ask) = ClosesWith 4003

  -- what a text does on an open connection, by its session's number, if it has a session, and by its reading
  abbrev pub read_move : State A → Option ℕ → Result Frame FrameFault → Move
  read_move s session (Err fault) = ClosesWith (fault_code fault)
  read_move s None (Ok f) = move_before_session s f
  read_move s (Some number) (Ok f) = move_in_session number f

  -- what a text does: nothing if the connection is not open; one that has sent too many is closed, whatever the text is
  abbrev pub move_of : State A → ℕ → ℕ → List ℕ → Move
  move_of s now conn text =
      if has_connection conn s then (if is_rated conn now s then ClosesWith 4008 else read_move s (number_on conn s) (frame_of text))
      else Nothing

-- a client's request is handed on with the number of its session
abbrev pub want_reply : ℕ → Want → Reply
want_reply number (Members ask) = reply.Ask number ask
want_reply number (Presence status) = reply.Presence number status
want_reply number (Voice ask) = reply.Voice number ask

module _ {A : Type 0} where
  -- what becomes of the connections and sessions; `sent` is what a session of a number begins with
  abbrev pub moved : ℕ → ℕ → (Bot → Viewer → ℕ → A) → Move → State A → State A
  moved conn now sent Nothing s = s
  moved conn now sent Answers s = after_heartbeat conn now s
  moved conn now sent (ClosesWith code) s = gone conn (Detached now) s
  moved conn now sent (Begins bot viewer) s = begun conn bot viewer (sent bot viewer) s
  moved conn now sent Denies s = s
  moved conn now sent (Resumes number older seq held) s = resumed conn now number older s
  moved conn now sent (Wants number want) s = s

  -- with the moment of the frame
  abbrev pub framed : ℕ → ℕ → (Bot → Viewer → ℕ → A) → Move → State A → State A
  framed conn now sent move s = frame_counted conn now (moved conn now sent move s)

  -- what is to be done then
  abbrev pub move_replies : ℕ → Move → State A → List Reply
  move_replies conn Nothing s = []
  move_replies conn Answers s = reply.Send conn Ack ∷ []
  move_replies conn (ClosesWith code) s = reply.Close conn code ∷ []
  move_replies conn (Begins bot viewer) s = reply.Begin (s.made + 1) ∷ []
  move_replies conn Denies s = reply.Send conn (Invalid false) ∷ []
  move_replies conn (Resumes number older seq held) s = resume_replies conn older seq held
  move_replies conn (Wants number want) s = want_reply number want ∷ []

  -- whether the session would have no number
  abbrev pub is_spent : Move → State A → Bool
  is_spent Nothing s = false
  is_spent Answers s = false
  is_spent (ClosesWith code) s = false
  is_spent (Begins bot viewer) s = s.made == 2 ^ 32 - 1
  is_spent Denies s = false
  is_spent (Resumes number older seq held) s = false
  is_spent (Wants number want) s = false

-- nothing was sent yet, and as much will be held as the bot's limits let
abbrev pub none_sent : Bot → Viewer → ℕ → Replay
none_sent bot viewer n = fresh bot.ring_items bot.ring_bytes

-- all of what is kept is what a resume needs
abbrev pub as_kept : Replay → Replay
as_kept held = held

-- what a call leaves that makes a move, by what it returns
abbrev pub Done : (conn now : ℕ) → Move → State Replay → State Replay → List Reply → Type 0
Done conn now move old new replies =
    (replies ≡ move_replies conn move old) × (new ≡ moved conn now none_sent move old) × (is_spent move old ≡ false)

abbrev pub Refused : Move → State Replay → State Replay → SessionFault → Type 0
Refused move old new fault.Spent = (is_spent move old ≡ true) × (new ≡ old)
Refused move old new fault.Memory = new ≡ old
