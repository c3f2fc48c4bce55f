-- Which texts a connection gets.
use Rattle.std.specs.Prelude.{◌≡◌, ℕ, ◌+◌, List, [], ◌∷◌, ◌++◌, true, false, ◌⊎◌, length, map, All}
use Rattle.dispatch_types.specs.declared.dispatch.Dispatch.{Dispatch}
use Rattle.session_core.specs.State.{Session, is_on}
use Rattle.world_law.specs.Sent.{dispatch_of, Sent}
use Rattle.world_law.specs.Outputs.{Output, Says, Sends, Closes, Wishes}
use Rattle.world_law.specs.Model.{Worker, in_model}
use Rattle.world_law.specs.Inputs.{Input, taken, outputs}

-- the dispatch of this number, from 1
abbrev pub IsNumber : ℕ → Dispatch → List Dispatch → Type 0
IsNumber n d ds = (front : List Dispatch) × ((back : List Dispatch) × ((ds ≡ front ++ d ∷ back) × (n ≡ length front + 1)))

-- a session of the connection has this dispatch as its number n
abbrev pub HasSent : ℕ → ℕ → Dispatch → List (Session Sent) → Type 0
HasSent conn n d [] = ⊥
HasSent conn n d (x ∷ xs) = ((is_on conn x.condition ≡ true) × IsNumber n d (map dispatch_of x.sent.told)) ⊎ HasSent conn n d xs

module _ (text : ℕ → Dispatch → List ℕ) where
  -- it is the text of a dispatch, with its number, of the session that the connection has
  abbrev pub IsSent : List (Session Sent) → ℕ → List ℕ → Type 0
  IsSent xs conn sent = (n : ℕ) × ((d : Dispatch) × ((sent ≡ text n d) × HasSent conn n d xs))

  abbrev pub OutputHolds : List (Session Sent) → Output → Type 0
  OutputHolds xs (Sends conn sent) = IsSent xs conn sent
  OutputHolds xs (Says conn out) = Unit {0}
  OutputHolds xs (Closes conn code) = Unit {0}
  OutputHolds xs (Wishes guild edit) = Unit {0}

-- each text that goes out is that of a dispatch of the session that the connection has
unfoldable pub EachSendHolds : Type 0
EachSendHolds = (text : ℕ → Dispatch → List ℕ) (w : Worker) (i : Input)
    → All (OutputHolds text (taken (in_model text) w i).core.sessions) (outputs (in_model text) w i)

-- ---- the session that a connection has

abbrev pub IsOff : ℕ → Session Sent → Type 0
IsOff conn x = is_on conn x.condition ≡ false

abbrev pub AreOff : ℕ → List (Session Sent) → Type 0
AreOff conn [] = Unit {0}
AreOff conn (x ∷ xs) = IsOff conn x × AreOff conn xs

-- at most one of these sessions has the connection
abbrev pub IsAlone : ℕ → List (Session Sent) → Type 0
IsAlone conn [] = Unit {0}
IsAlone conn (x ∷ xs) = (is_on conn x.condition ≡ true → AreOff conn xs) × IsAlone conn xs
