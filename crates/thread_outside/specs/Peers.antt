-- The other ends of links in memory.
use Rattle.std.specs.Prelude.{◌≡◌, List, [], ◌∷◌, ◌++◌, drop, Result, Ok, Err}
use Rattle.std.specs.declared.option.Option.{Option}
use Rattle.std.specs.declared.option.Option.TheVariants.{Some, None}
use Rattle.gate_outside.specs.declared.faults.Fault.{Fault}
use Rattle.gate_outside.specs.declared.faults.Fault.TheVariants.{Failed, Memory}
use Rattle.gate_outside.specs.declared.sending.Sending.{Sending}

-- what waits at the next call of a script: at a turn of None nothing does, nor after the last turn
abbrev pub first_turn : List (Option Sending) → Option Sending
first_turn [] = None
first_turn (turn ∷ more) = turn

-- one turn goes by; a script never fails, and an end that another may hold tells no turns
abbrev pub TakesTurn : Option (List (Option Sending)) → Option (List (Option Sending)) → Result (Option Sending) Fault → Type 0
TakesTurn None new result = new ≡ None
TakesTurn (Some turns) new (Ok turn) = (turn ≡ first_turn turns) × (new ≡ Some (drop 1 turns))
TakesTurn (Some turns) new (Err Failed) = ⊥
TakesTurn (Some turns) new (Err Memory) = new ≡ Some turns

-- what is taken is listed
abbrev pub ListsTaken : List Sending → List Sending → Result (Option Sending) Fault → Type 0
ListsTaken old new (Ok None) = new ≡ old
ListsTaken old new (Ok (Some x)) = new ≡ old ++ x ∷ []
ListsTaken old new (Err fault) = new ≡ old

-- what goes out leaves the turns; a script takes all, unless memory runs out
abbrev pub Puts : Option (List (Option Sending)) → Option (List (Option Sending)) → Result (Unit {0}) Fault → Type 0
Puts None new result = new ≡ None
Puts (Some turns) new (Ok u) = new ≡ Some turns
Puts (Some turns) new (Err Failed) = ⊥
Puts (Some turns) new (Err Memory) = new ≡ Some turns

-- what is put is listed
abbrev pub ListsPut : List Sending → List Sending → Sending → Result (Unit {0}) Fault → Type 0
ListsPut old new x (Ok u) = new ≡ old ++ x ∷ []
ListsPut old new x (Err fault) = new ≡ old

-- what was taken from the other end of a link and what was put there
pub record TaleLists : Type 0 where
  pub gave : List Sending
  pub sent : List Sending

-- a script: the turns that are still to come, what it gave and what it was sent
pub record ScriptState : Type 0 where
  pub turns : List (Option Sending)
  pub gave : List Sending
  pub sent : List Sending

-- a script before its first call
abbrev pub new_script : List (Option Sending) → ScriptState
new_script turns = record { turns = turns; gave = []; sent = [] }
