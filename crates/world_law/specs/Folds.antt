-- What a client holds of a session's dispatches, against the logs.
use Rattle.std.specs.Prelude.{◌≡◌, ℕ, ◌≤◌, List, [], ◌∷◌, ◌++◌, length, map, take, unwrap_or}
use Rattle.dispatch_types.specs.declared.viewer.Viewer.{Viewer}
use Rattle.dispatch_types.specs.Fold.{Held, fold}
use Rattle.edit_apply.specs.Edits.{state}
use Rattle.edit_apply.specs.declared.Edit.{Edit}
use Rattle.edit_events.specs.Law.{Agrees}
use Rattle.session_core.specs.State.{Session}
use Rattle.world_law.specs.Keeping.{Cursors}
use Rattle.world_law.specs.Sent.{SentDispatch, dispatch_of, Sent}

-- what a client holds of a guild after all of these
abbrev pub held : Viewer → ℕ → List SentDispatch → Held
held v g ts = fold v.intents g (map dispatch_of ts)

-- the next dispatch is not there, or has another mark
abbrev pub IsSettled : SentDispatch → List SentDispatch → Type 0
IsSettled t [] = Unit {0}
IsSettled t (next ∷ later) = ¬ (t.mark ≡ next.mark)

-- the cursors just before the entry or frame that made the next dispatch, or the last ones if there is none
abbrev pub until_next : Cursors → List SentDispatch → Cursors
until_next last [] = last
until_next last (next ∷ later) = next.before

-- after each settled dispatch a client holds the projection of each prefix in its span
abbrev pub Holds : (ℕ → List Edit) → Cursors → Viewer → List SentDispatch → Type 0
Holds logs last v told = (earlier : List SentDispatch) (t : SentDispatch) (later : List SentDispatch) → told ≡ earlier ++ t ∷ later → IsSettled t later
    → (g p : ℕ) → t.after g ≤ p → p ≤ until_next last later g
    → Agrees (state g (take p (logs g))) v (held v g (earlier ++ t ∷ []))

-- the cursors do not fall from dispatch to dispatch, up to the last ones
abbrev pub Rises : Cursors → List SentDispatch → Type 0
Rises last [] = Unit {0}
Rises last (t ∷ []) = (g : ℕ) → t.after g ≤ last g
Rises last (t ∷ next ∷ later) = ((g : ℕ) → t.after g ≤ next.after g) × Rises last (next ∷ later)

-- the cursors of a session's worker, now or as the session ended
abbrev pub last_cursors : Cursors → Session Sent → Cursors
last_cursors now x = unwrap_or x.sent.end now

-- what a session was sent folds to the projection of one prefix of each log, never shorter than before
pub record SessionHolds (logs : ℕ → List Edit) (now : Cursors) (x : Session Sent) : Type 0 where
  pub folds : Holds logs (last_cursors now x) x.viewer x.sent.told
  pub rises : Rises (last_cursors now x) x.sent.told
  pub within : (g : ℕ) → last_cursors now x g ≤ length (logs g)
