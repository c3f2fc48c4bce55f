-- internal: cited by private functions only
-- What is left by each reply of the sessions.
use Rattle.std.specs.Prelude.{◌≡◌, ℕ, List, [], ◌∷◌, ◌++◌, Bool, true, false, length}
use Rattle.std.specs.Option.{option_map_or}
use Rattle.dispatch_types.specs.declared.dispatch.Dispatch.{Dispatch}
use Rattle.session_core.specs.declared.reply.Reply.{Reply}
use Rattle.session_core.specs.declared.reply.Reply.TheVariants as reply
use Rattle.session_core.specs.State.{Session}
use Rattle.session_core.specs.Frames.{Want, Members, Presence, Voice}
use Rattle.replay_ring.specs.Replay.{Replay}
use Rattle.world_law.specs.Keeping.{with_sessions}
use Rattle.world_law.specs.Outputs.{Output, Says, Sends, Closes, sends}
use Rattle.world_law.specs.Greeting.{first_dispatches}
use Rattle.world_law.specs.Wants.{is_numbered, numbered, want_sends, after_want}
use Rattle.world_law.specs.Spent.{is_past, want_spends}
use Rattle.worker_core.specs.declared.io.Output.{Output as Written}
use Rattle.worker_core.specs.declared.io.StepFault.{StepFault}
use Rattle.worker_core.specs.InCode.{wire_text, in_code, KeptMachine, KeptWorker}
use Rattle.worker_core.specs.Represents.{FaultBy}
use Rattle.worker_core.specs.Outputs.{all_written}
use Rattle.worker_core.specs.Telling.{further}

-- replies by which no session begins and no client is answered
abbrev pub is_plain : Reply → Bool
is_plain (reply.Send conn payload) = true
is_plain (reply.Close conn code) = true
is_plain (reply.Text conn text) = true
is_plain (reply.Begin n) = false
is_plain (reply.Ask n ask) = false
is_plain (reply.Presence n status) = false
is_plain (reply.Voice n ask) = false

abbrev pub plain : Reply → List Output
plain (reply.Send conn payload) = Says conn payload ∷ []
plain (reply.Close conn code) = Closes conn code ∷ []
plain (reply.Text conn text) = Sends conn text ∷ []
plain (reply.Begin n) = []
plain (reply.Ask n ask) = []
plain (reply.Presence n status) = []
plain (reply.Voice n ask) = []

-- a session that begins is the last one, and its name is its bot's
abbrev pub greeted : KeptMachine → ℕ → Session Replay → List Dispatch
greeted k n x = first_dispatches in_code k x.viewer x.name n

abbrev pub Greets : KeptWorker → ℕ → KeptWorker → List Written → List Written → Type 0
Greets old n new before out = (front : List (Session Replay)) (x : Session Replay) → old.machine.core.sessions ≡ front ++ x ∷ [] → is_numbered n x ≡ true
    → (new ≡ record old { machine = record old.machine { core = with_sessions (front ++ further (greeted old.machine n x) x ∷ []) old.machine.core } })
    × ((out ≡ before ++ all_written (sends wire_text x.condition x.sent.last (greeted old.machine n x))) × (is_past x.sent.last (length (greeted old.machine n x)) ≡ false))

abbrev pub GreetsNot : KeptWorker → ℕ → StepFault → Type 0
GreetsNot old n fault = (front : List (Session Replay)) (x : Session Replay) → old.machine.core.sessions ≡ front ++ x ∷ [] → is_numbered n x ≡ true
    → FaultBy (is_past x.sent.last (length (greeted old.machine n x))) fault

-- the session of a number is given what its client wants
abbrev pub wanted_sends : KeptMachine → ℕ → Want → List Output
wanted_sends k number want = option_map_or (want_sends in_code k want) (numbered number k.core.sessions) []

abbrev pub wanted_spends : KeptMachine → ℕ → Want → Bool
wanted_spends k number want = option_map_or (want_spends in_code k want) (numbered number k.core.sessions) false

abbrev pub Gives : KeptWorker → ℕ → Want → KeptWorker → List Written → List Written → Type 0
Gives old number want new before out =
    (new ≡ record old { machine = after_want in_code number want old.machine })
    × ((out ≡ before ++ all_written (wanted_sends old.machine number want)) × (wanted_spends old.machine number want ≡ false))

abbrev pub GivesNot : KeptWorker → ℕ → Want → StepFault → Type 0
GivesNot old number want fault = FaultBy (wanted_spends old.machine number want) fault

-- what is left after one reply
abbrev pub Replies : Reply → KeptWorker → KeptWorker → List Written → List Written → Type 0
Replies (reply.Send conn payload) old new before out = (new ≡ old) × (out ≡ before ++ all_written (Says conn payload ∷ []))
Replies (reply.Close conn code) old new before out = (new ≡ old) × (out ≡ before ++ all_written (Closes conn code ∷ []))
Replies (reply.Text conn text) old new before out = (new ≡ old) × (out ≡ before ++ all_written (Sends conn text ∷ []))
Replies (reply.Begin n) old new before out = Greets old n new before out
Replies (reply.Ask n ask) old new before out = Gives old n (Members ask) new before out
Replies (reply.Presence n status) old new before out = Gives old n (Presence status) new before out
Replies (reply.Voice n ask) old new before out = Gives old n (Voice ask) new before out

abbrev pub RepliesNot : Reply → KeptWorker → StepFault → Type 0
RepliesNot (reply.Send conn payload) old fault = FaultBy false fault
RepliesNot (reply.Close conn code) old fault = FaultBy false fault
RepliesNot (reply.Text conn text) old fault = FaultBy false fault
RepliesNot (reply.Begin n) old fault = GreetsNot old n fault
RepliesNot (reply.Ask n ask) old fault = GivesNot old n (Members ask) fault
RepliesNot (reply.Presence n status) old fault = GivesNot old n (Presence status) fault
RepliesNot (reply.Voice n ask) old fault = GivesNot old n (Voice ask) fault
