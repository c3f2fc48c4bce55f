-- What a worker takes and what it gives out, in order (Gateway, Connection Lifecycle).
use Rattle.std.specs.Prelude.{ℕ, List, [], ◌∷◌, ◌++◌, flat_map, map}
use Rattle.gate_outside.specs.declared.sending.Sending.TheVariants as sending
use Rattle.open_links.specs.Courses.{Events, Opens, Comes, Loses, Gives}
use Rattle.edit_apply.specs.declared.Edit.{Edit}
use Rattle.world_law.specs.Model.{Worker}
use Rattle.world_law.specs.Inputs.{Input, Look, Rebase, Open, Frame, Lost, Closed, Tick, taken, outputs}
use Rattle.worker_core.specs.declared.io.Output.{Output as Written}
use Rattle.worker_core.specs.declared.io.Output.TheVariants.{Send, Close, Wish}
use Rattle.worker_core.specs.InCode.{wire_model}
use Rattle.worker_core.specs.Outputs.{all_written}

-- an input that the worker took, or an output that it gave out
pub data Happened : Type 0 where
  Took : (input : Input) → Happened
  Gave : (output : Written) → Happened

abbrev pub History : Type 0
History = List Happened

abbrev pub given_out : List Written → History
given_out out = map Gave out

-- all that a worker takes and gives out for these inputs
abbrev pub transcript : Worker → List Input → History
transcript w [] = []
transcript w (i ∷ is) = (Took i ∷ given_out (all_written (outputs wire_model w i))) ++ transcript (taken wire_model w i) is

-- ---- what stands in a history

abbrev pub input_of : Happened → List Input
input_of (Took i) = i ∷ []
input_of (Gave output) = []

abbrev pub inputs : History → List Input
inputs h = flat_map input_of h

-- what an input says of a connection
abbrev pub event_taken : Input → Events
event_taken (Look g es) = []
event_taken (Rebase g log) = []
event_taken (Open conn) = (conn, Opens) ∷ []
event_taken (Frame conn text) = (conn, Comes (sending.Text text)) ∷ []
event_taken (Lost conn) = (conn, Loses) ∷ []
event_taken (Closed conn code) = (conn, Comes (sending.Close code)) ∷ []
event_taken (Tick now) = []

abbrev pub event_given : Written → Events
event_given (Send conn text) = (conn, Gives (sending.Text text)) ∷ []
event_given (Close conn code) = (conn, Gives (sending.Close code)) ∷ []
event_given (Wish g e) = []

abbrev pub event_of : Happened → Events
event_of (Took i) = event_taken i
event_of (Gave output) = event_given output

-- what happened to connections
abbrev pub events : History → Events
events h = flat_map event_of h

abbrev pub tick_of : Happened → List ℕ
tick_of (Took (Tick now)) = now ∷ []
tick_of _ = []

-- the moments that the worker was given
abbrev pub ticks : History → List ℕ
ticks h = flat_map tick_of h

abbrev pub wish_of : Happened → List (ℕ × Edit)
wish_of (Gave (Wish g e)) = (g, e) ∷ []
wish_of _ = []

-- the edits that clients asked for, each with its guild
abbrev pub wishes : History → List (ℕ × Edit)
wishes h = flat_map wish_of h
