-- What becomes of a worker's value, and what it gives out.
use Rattle.std.specs.Prelude.{◌≡◌, List, [], ◌∷◌, ◌++◌, Bool, false, ◌||◌}
use mathlib.Core.List.{IsPrefix}
use Rattle.world_law.specs.Model.{Worker}
use Rattle.world_law.specs.Inputs.{Input, taken}
use Rattle.world_law.specs.Spent.{spends}
use Rattle.world_law.specs.TheLaw.{all_taken}
use Rattle.worker_core.specs.declared.io.Output.{Output as Written}
use Rattle.worker_core.specs.InCode.{wire_text, wire_model, KeptWorker}
use Rattle.worker_core.specs.Represents.{Represents}
use Rattle.worker_run.specs.Histories.{History, given_out, inputs, transcript}

-- whether one of these inputs would raise a count past its last value
abbrev pub any_spends : Worker → List Input → Bool
any_spends w [] = false
any_spends w (i ∷ is) = spends wire_model w i || any_spends (taken wire_model w i) is

-- the worker has taken the inputs of the history, and has given out all that it owes for them, but for the rest
pub record Follows (old : KeptWorker) (h : History) (rest : List Written) (new : KeptWorker) (w : Worker) : Type 0 where
  pub represents : Represents new (all_taken wire_text w (inputs h))
  pub whole : h ++ given_out rest ≡ transcript w (inputs h)
  pub unspent : any_spends w (inputs h) ≡ false

-- whichever worker of the model it represents
abbrev pub FollowsAll : KeptWorker → History → List Written → KeptWorker → Type 0
FollowsAll old h rest new = (w : Worker) → Represents old w → Follows old h rest new w

-- the worker has stopped: it has given out a front of what it owes for the inputs of the history
abbrev pub IsFront : KeptWorker → History → Type 0
IsFront old h = (w : Worker) → Represents old w → IsPrefix h (transcript w (inputs h))
