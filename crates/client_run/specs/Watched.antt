-- What a watcher tells of the dispatches that its client is told.
use Rattle.std.specs.Prelude.{◌≡◌, ◌⊎◌, ℕ, ◌+◌, ◌≤◌, List, [], ◌∷◌, ◌++◌, flat_map, length, Bool, true, false, Option, None, option_map, Result, Ok, Err, decimal}
use Rattle.intent_set.specs.declared.kind.Kind.{Kind}
use Rattle.intent_set.specs.Kind.{name_of}
use Rattle.gate_outside.specs.Causes.{Rose}
use Rattle.gate_outside.specs.Streams.{Carries}

-- the line of a dispatch: its number and its name
abbrev pub dispatch_line : ℕ → Kind → List ℕ
dispatch_line number kind = decimal number ++ 32 ∷ (name_of kind ++ 10 ∷ [])

-- lines as one text
abbrev pub text_of : List (List ℕ) → List ℕ
text_of lines = flat_map (λ line. line) lines

-- what a watcher tells, with what it writes to
pub record WatchTale : Type 0 where
  -- how many dispatches it was asked after, and after how many it ends its client, where it tells
  pub count : Option ℕ
  pub goal : Option ℕ
  -- what went out, where that is told, and what waits
  pub got : Option (List ℕ)
  pub waits : List ℕ
  -- how often what it writes to has failed, and whether it did so under this watcher
  pub faults : ℕ
  pub failed : Bool

-- a watcher that tells nothing
abbrev pub no_tale : WatchTale
no_tale = record { count = None; goal = None; got = None; waits = []; faults = 0; failed = false }

-- it was asked after dispatches with these lines
pub record HasTold (old : WatchTale) (lines : List (List ℕ)) (new : WatchTale) : Type 0 where
  pub count : new.count ≡ option_map (λ n. n + length lines) old.count
  pub goal : new.goal ≡ old.goal
  pub text : Carries old.got new.got new.waits (old.waits ++ text_of lines)
  pub later : old.faults ≤ new.faults
  pub rose : new.failed ≡ true → (old.failed ≡ true) ⊎ Rose old.faults new.faults

-- it was asked after dispatches with a front of these
pub record HasToldFront (old : WatchTale) (lines : List (List ℕ)) (new : WatchTale) : Type 0 where
  pub front : List (List ℕ)
  pub rest : List (List ℕ)
  pub parts : lines ≡ front ++ rest
  pub told : HasTold old front new

-- after one with this line; where memory ran out, perhaps without it
abbrev pub HasToldLine : {A E : Type 0} → WatchTale → List ℕ → WatchTale → Result A E → Type 0
HasToldLine old line new (Ok x) = HasTold old (line ∷ []) new
HasToldLine old line new (Err e) = HasToldFront old (line ∷ []) new
