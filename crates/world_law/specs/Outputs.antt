-- What a worker sends.
use Rattle.std.specs.Prelude.{ℕ, ◌+◌, List, [], ◌∷◌}
use Rattle.dispatch_types.specs.declared.dispatch.Dispatch.{Dispatch}
use Rattle.edit_apply.specs.declared.Edit.{Edit}
use Rattle.gateway_frames.specs.declared.out.Out.{Out}
use Rattle.session_core.specs.State.{Condition, Attached, Detached, Ended}

pub data Output : Type 0 where
  -- a payload that is no dispatch of a session
  Says : (conn : ℕ) (out : Out) → Output
  -- the text of a dispatch
  Sends : (conn : ℕ) (text : List ℕ) → Output
  Closes : (conn code : ℕ) → Output
  -- a client asks for this edit of a guild
  Wishes : (guild : ℕ) (edit : Edit) → Output

module _ (text : ℕ → Dispatch → List ℕ) where
  -- the texts of the dispatches of a session after its number n
  abbrev pub texts_from : ℕ → List Dispatch → List (List ℕ)
  texts_from n [] = []
  texts_from n (d ∷ ds) = text (n + 1) d ∷ texts_from (n + 1) ds

  -- these on their way to the session's connection, if it has one
  abbrev pub sends : Condition → ℕ → List Dispatch → List Output
  sends (Attached conn) n [] = []
  sends (Attached conn) n (d ∷ ds) = Sends conn (text (n + 1) d) ∷ sends (Attached conn) (n + 1) ds
  sends (Detached since) n ds = []
  sends Ended n ds = []
