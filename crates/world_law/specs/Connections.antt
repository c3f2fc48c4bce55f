-- Which connections are open, by what came to a worker and what went out (Gateway, Connection Lifecycle).
use Rattle.std.specs.Prelude.{◌≡◌, ℕ, List, [], ◌∷◌, Bool, true, false, not, ◌==◌, ◌||◌, ◌&&◌}
use Rattle.dispatch_types.specs.declared.dispatch.Dispatch.{Dispatch}
use Rattle.session_core.specs.declared.bot.Bot.{Bot}
use Rattle.world_law.specs.Outputs.{Output, Says, Sends, Closes, Wishes}
use Rattle.world_law.specs.Model.{Worker, in_model, first_worker}
use Rattle.world_law.specs.Inputs.{Input, Look, Rebase, Open, Frame, Lost, Closed, Tick, taken, outputs}

-- whether a connection is open
abbrev pub Opened : Type 0
Opened = ℕ → Bool

abbrev pub none_opened : Opened
none_opened conn = false

abbrev pub with_conn : ℕ → Opened → Opened
with_conn conn on c = (conn == c) || on c

abbrev pub without_conn : ℕ → Opened → Opened
without_conn conn on c = not (conn == c) && on c

-- a connection opens, is lost, or is closed by its client
abbrev pub after_input : Input → Opened → Opened
after_input (Look g es) on = on
after_input (Rebase g log) on = on
after_input (Open conn) on = with_conn conn on
after_input (Frame conn text) on = on
after_input (Lost conn) on = without_conn conn on
after_input (Closed conn code) on = without_conn conn on
after_input (Tick now) on = on

-- or the worker closes it
abbrev pub after_output : Output → Opened → Opened
after_output (Says conn out) on = on
after_output (Sends conn text) on = on
after_output (Closes conn code) on = without_conn conn on
after_output (Wishes g e) on = on

abbrev pub after_outputs : List Output → Opened → Opened
after_outputs [] on = on
after_outputs (o ∷ os) on = after_outputs os (after_output o on)

-- an output for a connection is for an open one
abbrev pub IsToOpen : Opened → Output → Type 0
IsToOpen on (Says conn out) = on conn ≡ true
IsToOpen on (Sends conn text) = on conn ≡ true
IsToOpen on (Closes conn code) = on conn ≡ true
IsToOpen on (Wishes g e) = Unit {0}

-- each of these outputs is, as the connections are at its turn
abbrev pub AreToOpen : Opened → List Output → Type 0
AreToOpen on [] = Unit {0}
AreToOpen on (o ∷ os) = IsToOpen on o × AreToOpen (after_output o on) os

module _ (text : ℕ → Dispatch → List ℕ) where
  -- and so is each output of a worker that takes these inputs
  abbrev pub GivesToOpen : Opened → Worker → List Input → Type 0
  GivesToOpen on w [] = Unit {0}
  GivesToOpen on w (i ∷ is) =
      AreToOpen (after_input i on) (outputs (in_model text) w i)
      × GivesToOpen (after_outputs (outputs (in_model text) w i) (after_input i on)) (taken (in_model text) w i) is

-- whatever inputs come, a worker gives out nothing for a connection that has not opened or has ended
unfoldable pub EachOutputHolds : Type 0
EachOutputHolds = (text : ℕ → Dispatch → List ℕ) (bots : List Bot) (guilds : List ℕ) (number : ℕ) (url : List ℕ) (inputs : List Input)
    → GivesToOpen text none_opened (first_worker bots guilds number url) inputs
