-- Which hooks are called for a dispatch, and what is noted of each call.
use Rattle.std.specs.Prelude.{◌≡◌, ℕ, List}
use Rattle.std.specs.List.{filter, enumerate_from}
use Rattle.intent_set.specs.declared.kind.Kind.{Kind}
use Rattle.dispatch_types.specs.declared.dispatch.Dispatch.{Dispatch}
use Rattle.client_hooks.specs.declared.note.HookNote.{HookNote}
use Rattle.client_hooks.specs.Kinds.{holds}

-- each answer of a hook to a dispatch meets a rule
abbrev pub Keeps : (Dispatch → ℕ → Type 0) → (Dispatch → ℕ → Type 0) → Type 0
Keeps Answers Meets =
    (dispatch : Dispatch) (value : ℕ) → Answers dispatch value → Meets dispatch value

-- the hooks that are for dispatches of a kind, in the order in which they were kept, each with its
-- place among all
abbrev pub called : {H : Type 0} → (H → ℕ) → Kind → List H → List (ℕ × H)
called kinds_of kind hooks =
    filter (λ call. holds (kinds_of call.1) kind) (enumerate_from 0 hooks)

-- a note names the hook that was called by its place, the dispatch by its number, and an answer of
-- that hook, which meets the rule if the hook keeps it
pub record IsNoteOf {H : Type 0}
    (Answers : H → Dispatch → ℕ → Type 0) (Meets : Dispatch → ℕ → Type 0)
    (dispatch : Dispatch) (number : ℕ) (call : ℕ × H) (note : HookNote) : Type 0 where
  pub place : note.hook ≡ call.0
  pub counted : note.number ≡ number
  pub answered : Answers call.1 dispatch note.value
  pub meets : Keeps (Answers call.1) Meets → Meets dispatch note.value
