-- Doors in memory that others dial.
use Rattle.std.specs.Prelude.{◌≡◌, ℕ, ◌+◌, ◌-◌, ◌<◌, ◌^◌, ◌==◌, Bool, true, false, List, [], ◌∷◌, ◌++◌, Result, Ok, Err, MatchBool, MatchOption}
use Rattle.std.specs.Option.{option_to_list}
use Rattle.std.specs.declared.alloc.Global.{Global}
use Rattle.std.specs.declared.option.Option.{Option}
use Rattle.std.specs.declared.option.Option.TheVariants.{Some, None}
use Rattle.crossbeam_queue.specs.SegTies.{SegId}
use Rattle.gate_outside.specs.declared.accepted.Accepted.{Accepted}
use Rattle.gate_outside.specs.declared.accepted.Accepted.TheVariants as accepted
use Rattle.gate_outside.specs.declared.faults.Fault.{Fault}
use Rattle.gate_outside.specs.declared.faults.Fault.TheVariants.{Failed, Memory}
use Rattle.gate_outside.specs.FaultPlans.{Plan, fresh, fails, after_call, after_failed_call}
use Rattle.gate_outside.specs.Doors.{DoorTale}
use Rattle.gate_outside.specs.Dials.{DialTale, dry_after_link}
use Rattle.gate_outside.specs.Links.{ReturnedLink}
use Rattle.thread_outside.specs.declared.call_view.CallView.{CallView}
use Rattle.thread_outside.specs.CallLists.{CallState, ends_in, has_ended}
use Rattle.thread_outside.specs.CallRule.{WasEmpty}
use Rattle.thread_outside.specs.Lanes.{LaneId, LaneEnds, new_ends}
use Rattle.thread_outside.specs.MemLinks.{LinkState, new_link, kept_link}

-- which queue a door takes from, how many dials put there, what it took, and how often it took nothing
pub record TakerState : Type 0 where
  pub queue : SegId Global
  pub dials : ℕ
  pub taken : List CallState
  pub empty_takes : ℕ

abbrev pub after_call_of : TakerState → CallState → TakerState
after_call_of t call = record t { taken = t.taken ++ call ∷ [] }

abbrev pub after_empty_take : TakerState → TakerState
after_empty_take t = record t { empty_takes = t.empty_takes + 1 }

abbrev pub with_dial : TakerState → TakerState
with_dial t = record t { dials = t.dials + 1 }

-- the end of every dial was taken
abbrev pub HaveEnded : TakerState → Type 0
HaveEnded t = (dial : ℕ) → dial < t.dials → has_ended dial t.taken ≡ true

-- nothing waited at a step at which the door had taken just what it has now, and had counted the call
abbrev pub FoundNone : TakerState → Type 0
FoundNone t = (view : CallView) × (view.takes ≡ true) × (view.taken ≡ t.taken)
    × (view.empty_takes ≡ t.empty_takes) × WasEmpty view

-- what was taken grows at its end
abbrev pub GoesOn : List CallState → List CallState → Type 0
GoesOn old new = (more : List CallState) × (new ≡ old ++ more)

-- a call that takes nothing is counted
abbrev pub empty_takes_after : ℕ → Option LaneEnds → ℕ
empty_takes_after empty_takes None = empty_takes + 1
empty_takes_after empty_takes (Some e) = empty_takes

-- a door takes until ends come or nothing waits
pub record TakesEnds (old new : TakerState) (result : Option LaneEnds) : Type 0 where
  pub queue : new.queue ≡ old.queue
  pub dials : new.dials ≡ old.dials
  pub on : GoesOn old.taken new.taken
  pub ends : ends_in new.taken ≡ ends_in old.taken ++ option_to_list result
  pub empty_takes : new.empty_takes ≡ empty_takes_after old.empty_takes result
  pub none : MatchOption result (FoundNone new) (λ e. Unit {0})

-- a door that is dialled: what it took, how many links it gave, whether it has ended, which calls fail, and what came back
pub record DialledState : Type 0 where
  pub calls : TakerState
  pub given : ℕ
  pub ended : Bool
  pub plan : Plan
  pub returned : List ReturnedLink

abbrev pub new_dialled : SegId Global → ℕ → List ℕ → DialledState
new_dialled queue dials failing = record {
  calls = record { queue = queue; dials = dials; taken = []; empty_takes = 0 };
  given = 0;
  ended = false;
  plan = fresh failing;
  returned = [];
}

-- what a door that is dialled tells: how many links it will give, and whether somebody waits, is up to those who dial
abbrev pub dialled_tale : DialledState → DoorTale
dialled_tale d = record {
  given = d.given;
  ended = d.ended;
  accepts = None;
  waits = None;
  returned = Some d.returned;
}

-- what a door answers that has not given its most: the link of the next call; else that all dials have ended, or that one has not
abbrev pub Comes : DialledState → DialledState → Accepted LinkState → Type 0
Comes old new (accepted.Link link) = (e : LaneEnds) × ((link ≡ new_link None (Some e) []) × TakesEnds old.calls new.calls (Some e) × (new.given ≡ old.given + 1) × (new.ended ≡ false))
Comes old new accepted.NotYet = TakesEnds old.calls new.calls None × (HaveEnded new.calls → ⊥) × (new.given ≡ old.given) × (new.ended ≡ false)
Comes old new accepted.Ended = TakesEnds old.calls new.calls None × HaveEnded new.calls × (new.given ≡ old.given) × (new.ended ≡ true)

-- after 2^32 - 1 links the door has ended
abbrev pub ComesNext : DialledState → DialledState → Accepted LinkState → Type 0
ComesNext old new answer = MatchBool (old.given == 2 ^ 32 - 1)
    ((answer ≡ accepted.Ended) × (new.calls ≡ old.calls) × (new.given ≡ old.given) × (new.ended ≡ true))
    (Comes old new answer)

-- a call of `accept` on a door that has not ended
abbrev pub AcceptsOpen : DialledState → DialledState → Result (Accepted LinkState) Fault → Type 0
AcceptsOpen old new (Ok answer) = (fails old.plan ≡ false) × ComesNext old new answer × (new.plan ≡ after_call old.plan) × (new.returned ≡ old.returned)
AcceptsOpen old new (Err Failed) = (fails old.plan ≡ true) × (new ≡ record old { plan = after_failed_call old.plan })
AcceptsOpen old new (Err Memory) = new ≡ old

-- a call of `accept`; a door that has ended stays so
abbrev pub AcceptsCall : DialledState → DialledState → Result (Accepted LinkState) Fault → Type 0
AcceptsCall old new result = MatchBool old.ended ((result ≡ Ok accepted.Ended) × (new ≡ old)) (AcceptsOpen old new result)

-- after a link has come back
abbrev pub with_link : DialledState → LinkState → DialledState
with_link d link = record d { returned = d.returned ++ kept_link link ∷ [] }

-- a dial to such a door: which queue it puts into, its number, what it put, the URLs, the dry run, and what came back
pub record DoorDialState : Type 0 where
  pub queue : SegId Global
  pub caller : ℕ
  pub put : List CallState
  pub urls : List (List ℕ)
  pub dry_run : ℕ
  pub returned : List ReturnedLink

abbrev pub new_door_dial : SegId Global → ℕ → DoorDialState
new_door_dial queue caller = record { queue = queue; caller = caller; put = []; urls = []; dry_run = 0; returned = [] }

-- what such a dial tells
abbrev pub door_dial_tale : DoorDialState → DialTale
door_dial_tale d = record {
  dry_run = d.dry_run;
  urls = Some d.urls;
  returned = Some d.returned;
}

-- after a dial that put these ends
abbrev pub after_dialled : DoorDialState → List ℕ → LaneEnds → DoorDialState
after_dialled d url e = record {
  queue = d.queue;
  caller = d.caller;
  put = d.put ++ record { caller = d.caller; ends = Some e } ∷ [];
  urls = d.urls ++ url ∷ [];
  dry_run = d.dry_run;
  returned = d.returned;
}

-- a call of `dial` gives the one end and puts the other; out of memory leaves all as it was
abbrev pub DialsDoor : DoorDialState → DoorDialState → List ℕ → Result LinkState Fault → Type 0
DialsDoor old new url (Ok link) = (here there : LaneId) × ((link ≡ new_link None (Some (new_ends here there)) []) × (new ≡ after_dialled old url (new_ends there here)))
DialsDoor old new url (Err Failed) = ⊥
DialsDoor old new url (Err Memory) = new ≡ old

-- after a link has come back
abbrev pub after_hang_up : DoorDialState → LinkState → DoorDialState
after_hang_up d link = record d {
  dry_run = dry_after_link d.dry_run link.gave_text link.plan.faults;
  returned = d.returned ++ kept_link link ∷ [];
}
