-- internal: cited by private functions only
-- What is left by a call that sends dispatches to sessions by their indexes.
use Rattle.std.specs.Prelude.{◌≡◌, ℕ, ◌+◌, ◌-◌, ◌^◌, min, List, [], ◌∷◌, ◌++◌, Option, Some, None, false, length, map, flat_map}
use Rattle.std.specs.List.{list_any}
use Rattle.guild_model.specs.Record.{Record}
use Rattle.dispatch_types.specs.declared.dispatch.Dispatch.{Dispatch}
use Rattle.edit_apply.specs.declared.Edit.{Edit}
use Rattle.session_core.specs.declared.reply.Mark.{Mark}
use Rattle.session_core.specs.declared.reply.Mark.TheVariants.{Start, Entry, Chunk}
use Rattle.session_core.specs.State.{State, Session}
use Rattle.replay_ring.specs.Replay.{Replay}
use Rattle.world_law.specs.Keeping.{with_sessions}
use Rattle.world_law.specs.Outputs.{sends}
use Rattle.world_law.specs.Spent.{is_past}
use Rattle.worker_core.specs.InCode.{wire_text, held_with}
use Rattle.worker_core.specs.Represents.{FaultBy}
use Rattle.worker_core.specs.Outputs.{all_written}
use Rattle.worker_core.specs.Looked.{told_more, told_sends, told_spends}
use Rattle.worker_core.specs.declared.io.Output.{Output as Written}
use Rattle.worker_core.specs.declared.io.Output.TheVariants.{Send}
use Rattle.worker_core.specs.declared.io.StepFault.{StepFault}

-- a text on its way to a connection, if there is one
abbrev pub sent_to : Option ℕ → List ℕ → List Written
sent_to None text = []
sent_to (Some conn) text = Send conn text ∷ []

-- the mark of the dispatch at an index, where the first has a mark: each chunk has its own
abbrev pub mark_at : Mark → ℕ → Mark
mark_at Start index = Start
mark_at (Entry guild position) index = Entry guild position
mark_at (Chunk number) index = Chunk (min (number + index) (2 ^ 64 - 1))

-- with these dispatches more
abbrev pub further : List Dispatch → Session Replay → Session Replay
further ds x = record x { sent = held_with ds x.sent }

-- the session at this index stands between these
abbrev pub IsAt : ℕ → List (Session Replay) → Session Replay → List (Session Replay) → State Replay → Type 0
IsAt index front x back s = (s.sessions ≡ front ++ x ∷ back) × (index ≡ length front)

module _ (index : ℕ) (due : Session Replay → List Dispatch) (old : State Replay) where
  -- the session at the index is sent what is due to it
  abbrev pub TellsAt : State Replay → List Written → List Written → Type 0
  TellsAt new before out = (front back : List (Session Replay)) (x : Session Replay) → IsAt index front x back old
      → (new ≡ with_sessions (front ++ further (due x) x ∷ back) old)
      × ((out ≡ before ++ all_written (sends wire_text x.condition x.sent.last (due x))) × (is_past x.sent.last (length (due x)) ≡ false))

  abbrev pub FailsAt : StepFault → Type 0
  FailsAt fault = (front back : List (Session Replay)) (x : Session Replay) → IsAt index front x back old → FaultBy (is_past x.sent.last (length (due x))) fault

-- each session is sent what an entry owes to it
module _ (s : Record) (e : Edit) (old : State Replay) where
  abbrev pub TellsEach : State Replay → List Written → List Written → Type 0
  TellsEach new before out = (new ≡ with_sessions (map (told_more s e) old.sessions) old)
      × ((out ≡ before ++ all_written (flat_map (told_sends s e) old.sessions)) × (list_any (told_spends s e) old.sessions ≡ false))

  abbrev pub FailsEach : StepFault → Type 0
  FailsEach fault = FaultBy (list_any (told_spends s e) old.sessions) fault
