-- Which dispatches of a session were made for which entry of a log, and who was sent messages.
use Rattle.std.specs.Prelude.{◌≡◌, ℕ, ◌+◌, ◌<◌, ◌≤◌, List, [], ◌∷◌, ◌++◌, Bool, true, false, ◌==◌, ◌&&◌, ◌||◌, Option, Some, if◌then◌else◌, length, map, filter, take, All}
use Rattle.guild_model.specs.Record.{Record}
use Rattle.dispatch_types.specs.declared.viewer.Viewer.{Viewer}
use Rattle.dispatch_types.specs.declared.dispatch.Dispatch.{Dispatch}
use Rattle.dispatch_types.specs.declared.dispatch.Dispatch.TheVariants as dispatch
use Rattle.dispatch_types.specs.Kinds.{kind_of}
use Rattle.message_edit.specs.declared.MessageEdit.{MessageEdit}
use Rattle.message_gate.specs.Shows.{shows}
use Rattle.message_events.specs.Notes.{message_note}
use Rattle.message_events.specs.Dispatches.{About, message_told}
use Rattle.edit_apply.specs.Edits.{state, accepts, after}
use Rattle.edit_apply.specs.declared.Edit.{Edit}
use Rattle.edit_apply.specs.declared.Edit.TheVariants as edit
use Rattle.edit_events.specs.Due.{due}
use Rattle.edit_events.specs.Privacy.{TellsOnly, shown_for}
use Rattle.session_core.specs.declared.reply.Mark.{Mark}
use Rattle.session_core.specs.declared.reply.Mark.TheVariants.{Entry}
use Rattle.session_core.specs.State.{Session}
use Rattle.world_law.specs.Keeping.{Cursors}
use Rattle.world_law.specs.Sent.{SentDispatch, dispatch_of, Sent}
use Rattle.world_law.specs.Folds.{last_cursors}

abbrev pub is_for : ℕ → ℕ → Mark → Bool
is_for g p (Entry h q) = (h == g) && (q == p)
is_for g p _ = false

-- the dispatches that were made for entry p of guild g
abbrev pub made_for : ℕ → ℕ → List SentDispatch → List Dispatch
made_for g p ts = map dispatch_of (filter (λ (t : SentDispatch). is_for g p t.mark) ts)

-- the cursors as a session began
abbrev pub first_cursors : List SentDispatch → Cursors
first_cursors [] = λ g. 0
first_cursors (t ∷ ts) = t.before

-- for each entry that was handled while the session was there, exactly what it owed by the record before
-- it, and nothing for any other
pub record EntriesHold (logs : ℕ → List Edit) (start last : Cursors) (v : Viewer) (sent : List SentDispatch) : Type 0 where
  pub handled : (g : ℕ) (front : List Edit) (e : Edit) → take (length front + 1) (logs g) ≡ front ++ e ∷ [] → start g ≤ length front → length front + 1 ≤ last g
      → made_for g (length front + 1) sent ≡ due (state g front) e v
  pub before : (g p : ℕ) → p ≤ start g → made_for g p sent ≡ []
  pub beyond : (g p : ℕ) → last g < p → made_for g p sent ≡ []
  pub begun : (g : ℕ) → start g ≤ last g

abbrev pub SessionEntriesHold : (ℕ → List Edit) → Cursors → Session Sent → Type 0
SessionEntriesHold logs now x = EntriesHold logs (first_cursors x.sent.told) (last_cursors now x) x.viewer x.sent.told

-- what was made for an entry tells only of channels that are shown to the session's bot before that very entry or
-- after it, and of voice states in them
abbrev pub EntriesTellOnly : (ℕ → List Edit) → Cursors → Session Sent → Type 0
EntriesTellOnly logs now x = (g : ℕ) (front : List Edit) (e : Edit) → take (length front + 1) (logs g) ≡ front ++ e ∷ []
    → first_cursors x.sent.told g ≤ length front → length front + 1 ≤ last_cursors now x g
    → let s = state g front in
    All (TellsOnly (λ channel. shown_for s x.viewer channel || shown_for (after s e) x.viewer channel)) (made_for g (length front + 1) x.sent.told)

-- an edit of messages has one dispatch, which was sent exactly if it is shown by this record: if the viewer is
-- served, asks for it, and sees its channel or thread
pub record IsShown (t : Record) (v : Viewer) (told : Option About) (sent : List Dispatch) : Type 0 where
  pub about : About
  pub is : told ≡ Some about
  pub exactly : sent ≡ (if shows t v about.channel (kind_of about.dispatch) then about.dispatch ∷ [] else [])

-- an accepted edit of messages that was handled while the session was there: its dispatch stands under its
-- mark, once, exactly if it is shown by the record after that very entry
abbrev pub MessagesShown : (ℕ → List Edit) → Cursors → Session Sent → Type 0
MessagesShown logs now x = (g : ℕ) (front : List Edit) (e : MessageEdit) → take (length front + 1) (logs g) ≡ front ++ edit.Message e ∷ []
    → first_cursors x.sent.told g ≤ length front → length front + 1 ≤ last_cursors now x g → accepts (state g front) (edit.Message e) ≡ true
    → let s = state g front in let t = after s (edit.Message e) in
    IsShown t x.viewer (message_told t x.viewer (message_note s e) e) (made_for g (length front + 1) x.sent.told)

-- a dispatch about messages, reactions or typing
abbrev pub about_messages : Dispatch → Bool
about_messages (dispatch.MessageCreate message) = true
about_messages (dispatch.MessageUpdate message) = true
about_messages (dispatch.MessageDelete delete) = true
about_messages (dispatch.MessageReactionAdd reaction) = true
about_messages (dispatch.MessageReactionRemove reaction) = true
about_messages (dispatch.TypingStart typing) = true
about_messages _ = false

-- a mark of an entry that is an edit of messages
abbrev pub IsOfMessages : (ℕ → List Edit) → Mark → Type 0
IsOfMessages logs (Entry g p) = (front : List Edit) × ((e : MessageEdit) × ((p ≡ length front + 1) × (take p (logs g) ≡ front ++ edit.Message e ∷ [])))
IsOfMessages logs _ = ⊥

-- a dispatch about messages was made for an edit of messages
abbrev pub IsMadeForMessages : (ℕ → List Edit) → SentDispatch → Type 0
IsMadeForMessages logs t = about_messages t.dispatch ≡ true → IsOfMessages logs t.mark

-- of messages, reactions and typing a session is sent what is shown of them, and nothing under any other mark
pub record MessagesHold (logs : ℕ → List Edit) (now : Cursors) (x : Session Sent) : Type 0 where
  pub shown : MessagesShown logs now x
  pub alone : All (IsMadeForMessages logs) x.sent.told
