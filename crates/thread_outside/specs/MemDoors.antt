-- Doors in memory.
use Rattle.std.specs.Prelude.{◌≡◌, ℕ, ◌+◌, min, ◌==◌, List, [], ◌∷◌, ◌++◌, Bool, true, false, Result, Ok, Err, is_some, MatchBool}
use Rattle.std.specs.declared.option.Option.{Option}
use Rattle.std.specs.declared.option.Option.TheVariants.{Some, None}
use Rattle.gate_outside.specs.FaultPlans.{Plan, fresh, fails, after_call, after_failed_call}
use Rattle.gate_outside.specs.declared.faults.Fault.{Fault}
use Rattle.gate_outside.specs.declared.faults.Fault.TheVariants.{Failed, Memory}
use Rattle.gate_outside.specs.declared.accepted.Accepted.{Accepted}
use Rattle.gate_outside.specs.declared.accepted.Accepted.TheVariants as accepted
use Rattle.gate_outside.specs.Doors.{DoorTale}
use Rattle.gate_outside.specs.Links.{ReturnedLink}
use Rattle.thread_outside.specs.MemLinks.{ContentState, LinkState, new_link, kept_link}

-- who waits at each call, how many links were given and are given at most, whether it has ended, which calls fail,
-- and what came back
pub record DoorState : Type 0 where
  pub callers : List (Option ContentState)
  pub given : ℕ
  pub most : ℕ
  pub ended : Bool
  pub plan : Plan
  pub returned : List ReturnedLink

abbrev pub new_door : List (Option ContentState) → ℕ → List ℕ → DoorState
new_door callers most failing = record {
  callers = callers;
  given = 0;
  most = most;
  ended = false;
  plan = fresh failing;
  returned = [];
}

-- how many of them ask for a link
abbrev pub count_callers : List (Option ContentState) → ℕ
count_callers [] = 0
count_callers (None ∷ more) = count_callers more
count_callers (Some caller ∷ more) = count_callers more + 1

-- how many links a door gives in all that has given so many and gives at most so many, at which these still come
abbrev pub all_links : ℕ → ℕ → List (Option ContentState) → ℕ
all_links given most callers = min (given + count_callers callers) most

-- who waits at the next call
abbrev pub next_caller : List (Option ContentState) → Option ContentState
next_caller [] = None
next_caller (caller ∷ more) = caller

-- what a door in memory tells
abbrev pub door_tale : DoorState → DoorTale
door_tale d = record {
  given = d.given;
  ended = d.ended;
  accepts = Some (all_links d.given d.most d.callers);
  waits = Some (is_some (next_caller d.callers));
  returned = Some d.returned;
}

-- the door with these that still come, so many links given, and whether it has ended
abbrev pub let_on : DoorState → List (Option ContentState) → ℕ → Bool → DoorState
let_on d callers given ended = record {
  callers = callers;
  given = given;
  most = d.most;
  ended = ended;
  plan = d.plan;
  returned = d.returned;
}

-- what the next of the callers gets, before the door has given its most
abbrev pub LetsNext : List (Option ContentState) → DoorState → DoorState → Accepted LinkState → Type 0
LetsNext [] old new answer = (answer ≡ accepted.Ended) × (new ≡ let_on old [] old.given true)
LetsNext (None ∷ more) old new answer = (answer ≡ accepted.NotYet) × (new ≡ let_on old more old.given old.ended)
LetsNext (Some caller ∷ more) old new answer = (answer ≡ accepted.Link (new_link caller.turns caller.lane caller.failing))
    × (new ≡ let_on old more (old.given + 1) old.ended)

-- the next caller is let in; after its most links the door has ended
abbrev pub LetsIn : DoorState → DoorState → Accepted LinkState → Type 0
LetsIn old new answer = MatchBool (old.given == old.most)
    ((answer ≡ accepted.Ended) × (new ≡ let_on old old.callers old.given true))
    (LetsNext old.callers old new answer)

-- a call of `accept` on a door that has not ended
abbrev pub LetsOpen : DoorState → DoorState → Result (Accepted LinkState) Fault → Type 0
LetsOpen old new (Ok answer) = (fails old.plan ≡ false) × LetsIn (record old { plan = after_call old.plan }) new answer
LetsOpen old new (Err Failed) = (fails old.plan ≡ true) × (new ≡ record old { plan = after_failed_call old.plan })
LetsOpen old new (Err Memory) = new ≡ old

-- a call of `accept`; a door that has ended stays so
abbrev pub Lets : DoorState → DoorState → Result (Accepted LinkState) Fault → Type 0
Lets old new result = MatchBool old.ended ((result ≡ Ok accepted.Ended) × (new ≡ old)) (LetsOpen old new result)

-- after a link has come back
abbrev pub with_returned : DoorState → LinkState → DoorState
with_returned d link = record d { returned = d.returned ++ kept_link link ∷ [] }
