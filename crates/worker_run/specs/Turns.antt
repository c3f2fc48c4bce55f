-- The turns in which a worker takes its inputs.
use Rattle.std.specs.Prelude.{◌≡◌, ℕ, ◌+◌, ◌≤◌, List, [], ◌∷◌, ◌++◌, Bool, true, false, not, Option, Some, None, All, map, flat_map, filter}
use Rattle.world_law.specs.Inputs.{Input, Look, Rebase, Open, Frame, Lost, Closed, Tick}

abbrev pub is_loss : Input → Bool
is_loss (Lost conn) = true
is_loss _ = false

-- the inputs but for the connections that are lost, which may be told at any time
abbrev pub but_losses : List Input → List Input
but_losses is = filter (λ i. not (is_loss i)) is

-- the guild whose log an input is about
abbrev pub looked_at : Input → Option ℕ
looked_at (Look g es) = Some g
looked_at (Rebase g log) = Some g
looked_at _ = None

-- the connection over which an input came
abbrev pub comes_over : Input → Option ℕ
comes_over (Frame conn text) = Some conn
comes_over (Closed conn code) = Some conn
comes_over _ = None

-- each is at least `from`, and greater than the one before
abbrev pub AscendFrom : ℕ → List ℕ → Type 0
AscendFrom from [] = Unit {0}
AscendFrom from (conn ∷ conns) = (from ≤ conn) × AscendFrom (conn + 1) conns

abbrev pub IsAtMostOneOpen : List Input → Type 0
IsAtMostOneOpen [] = Unit {0}
IsAtMostOneOpen (Open conn ∷ []) = Unit {0}
IsAtMostOneOpen _ = ⊥

-- inputs that came over connections, at most one over each, in order of arrival of these
pub record CameFrom (from : ℕ) (is : List Input) : Type 0 where
  pub conns : List ℕ
  pub over : map comes_over is ≡ map Some conns
  pub ascend : AscendFrom from conns

-- one look at each guild's log, in the order of the guilds, the time, then at most one new connection, and
-- what came over the connections
pub record IsTurn (guilds : List ℕ) (is : List Input) : Type 0 where
  pub looks : List Input
  pub now : ℕ
  pub opens : List Input
  pub came : List Input
  pub parts : is ≡ looks ++ (Tick now ∷ (opens ++ came))
  pub each : map looked_at looks ≡ map Some guilds
  pub one : IsAtMostOneOpen opens
  pub conns : CameFrom 0 came

-- a turn that may have been cut short
abbrev pub IsTurnCut : List ℕ → List Input → Type 0
IsTurnCut guilds is = (rest : List Input) × IsTurn guilds (is ++ rest)

-- whole turns
pub record AreWholeTurns (guilds : List ℕ) (is : List Input) : Type 0 where
  pub turns : List (List Input)
  pub parts : but_losses is ≡ flat_map (λ turn. turn) turns
  pub whole : All (IsTurn guilds) turns

-- whole turns, and one that may have been cut short
pub record AreTurns (guilds : List ℕ) (is : List Input) : Type 0 where
  pub turns : List (List Input)
  pub last : List Input
  pub parts : but_losses is ≡ flat_map (λ turn. turn) turns ++ last
  pub whole : All (IsTurn guilds) turns
  pub cut : IsTurnCut guilds last
