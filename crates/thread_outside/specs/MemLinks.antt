-- Links in memory.
use Rattle.std.specs.Prelude.{◌≡◌, ℕ, List, [], ◌∷◌, ◌++◌, Bool, true, false, drop, Result, Ok, Err, ◌⊎◌, MatchOption}
use Rattle.std.specs.Option.{option_map, option_to_list}
use Rattle.std.specs.declared.option.Option.{Option}
use Rattle.std.specs.declared.option.Option.TheVariants.{Some, None}
use Rattle.gate_outside.specs.FaultPlans.{Plan, fresh, fails, after_call, after_failed_call}
use Rattle.gate_outside.specs.declared.faults.Fault.{Fault}
use Rattle.gate_outside.specs.declared.faults.Fault.TheVariants.{Failed, Memory}
use Rattle.gate_outside.specs.declared.incoming.Incoming.{Incoming}
use Rattle.gate_outside.specs.declared.sending.Sending.{Sending}
use Rattle.gate_outside.specs.declared.sending.Sending.TheVariants as sending
use Rattle.gate_outside.specs.Links.{LinkTale, ReturnedLink, returned_link, given_by, gave_text_after}
use Rattle.thread_outside.specs.Lanes.{LaneId, LaneEnds, WasEmpty, MayGo, new_ends, came_on, came_none, went_on, found_left}
use Rattle.thread_outside.specs.Peers.{first_turn}

-- a link in memory; a script alone tells the turns that are still to come, and an end that another may hold tells its lanes
pub record LinkState : Type 0 where
  pub turns : Option (List (Option Sending))
  pub lane : Option LaneEnds
  pub own_code : Option ℕ
  pub gave_text : Bool
  pub gave : List Sending
  pub sent : List Sending
  pub plan : Plan

-- what a link is made from: the turns of a script or the lanes of an end, and the calls that are to fail
pub record ContentState : Type 0 where
  pub turns : Option (List (Option Sending))
  pub lane : Option LaneEnds
  pub failing : List ℕ

-- a link before its first call
abbrev pub new_link : Option (List (Option Sending)) → Option LaneEnds → List ℕ → LinkState
new_link turns lane failing = record {
  turns = turns;
  lane = lane;
  own_code = None;
  gave_text = false;
  gave = [];
  sent = [];
  plan = fresh failing;
}

-- two links before their first calls, of which each takes from the lane that the other puts into
abbrev pub ArePaired : LinkState → LinkState → Type 0
ArePaired near far = (here there : LaneId) × ((near ≡ new_link None (Some (new_ends here there)) []) × (far ≡ new_link None (Some (new_ends there here)) []))

-- what waits at the next call of a script
abbrev pub waiting : List (Option Sending) → List Sending
waiting turns = option_to_list (first_turn turns)

-- what a link in memory tells
abbrev pub tale_of : LinkState → LinkTale
tale_of s = record {
  own_code = s.own_code;
  gave_text = s.gave_text;
  waits = option_map waiting s.turns;
  gave = Some s.gave;
  sent = Some s.sent;
}

-- after a call that failed
abbrev pub after_fault_of : LinkState → LinkState
after_fault_of s = record s { plan = after_failed_call s.plan }

-- a lane whose other end is found to have left
abbrev pub lane_left : Option LaneEnds → Option LaneEnds
lane_left lane = option_map found_left lane

-- a lane refuses a text alone
abbrev pub MayRefuse : Option LaneEnds → Sending → Type 0
MayRefuse None x = Unit {0}
MayRefuse (Some e) (sending.Text text) = Unit {0}
MayRefuse (Some e) (sending.Close code) = ⊥

-- after a call that failed since the other end has left
abbrev pub after_refusal : LinkState → LinkState
after_refusal s = record s { lane = lane_left s.lane; plan = after_failed_call s.plan }

-- the other end, which is no script, refuses what goes out
abbrev pub Refuses : LinkState → LinkState → Sending → Type 0
Refuses old new x = (old.turns ≡ None) × MayRefuse old.lane x × (new ≡ after_refusal old)

-- a call fails if it is to fail, or if the other end refuses what goes out
abbrev pub Fails : LinkState → LinkState → Sending → Type 0
Fails old new x = ((fails old.plan ≡ true) × (new ≡ after_fault_of old)) ⊎ Refuses old new x

-- nothing waited on the lane at one step of the call that its end has counted last
abbrev pub FoundEmpty : Option LaneEnds → Type 0
FoundEmpty None = Unit {0}
FoundEmpty (Some e) = WasEmpty e.came

-- what comes over a lane; that nothing comes is counted
abbrev pub lane_after : Option LaneEnds → Option Sending → Option LaneEnds
lane_after None turn = None
lane_after (Some e) None = Some (came_none e)
lane_after (Some e) (Some x) = Some (came_on e x)

-- after a call of `recv` that gave this, if it gave something
abbrev pub after_given : LinkState → Option Sending → LinkState
after_given s turn = record {
  turns = option_map (drop 1) s.turns;
  lane = lane_after s.lane turn;
  own_code = s.own_code;
  gave_text = gave_text_after s.gave_text turn;
  gave = s.gave ++ option_to_list turn;
  sent = s.sent;
  plan = after_call s.plan;
}

-- after a call of `recv` that found nothing and failed
abbrev pub after_empty_fault : LinkState → LinkState
after_empty_fault s = record s { lane = lane_left (lane_after s.lane None); plan = after_failed_call s.plan }

-- a call of `recv` fails if it is to fail, or if the other end, which is no script, has left and nothing waited
abbrev pub RecvFails : LinkState → LinkState → Type 0
RecvFails old new = ((fails old.plan ≡ true) × (new ≡ after_fault_of old))
    ⊎ ((old.turns ≡ None) × (new ≡ after_empty_fault old) × FoundEmpty new.lane)

-- a call of `recv` on a link that this end has not closed; it gives nothing only if nothing waited
abbrev pub GivesOpen : LinkState → LinkState → Result Incoming Fault → Type 0
GivesOpen old new (Ok answer) = (fails old.plan ≡ false)
    × (new ≡ after_given old (given_by (Ok answer)))
    × MatchOption (given_by (Ok answer)) (FoundEmpty new.lane) (λ x. Unit {0})
GivesOpen old new (Err Failed) = RecvFails old new
GivesOpen old new (Err Memory) = new ≡ old

-- a call of `recv`; after the link's own close no call is counted and nothing changes
abbrev pub Gives : LinkState → LinkState → Result Incoming Fault → Type 0
Gives old new result = MatchOption old.own_code (GivesOpen old new result) (λ own. new ≡ old)

-- after what went out; a close is the link's own
abbrev pub after_put : LinkState → Sending → Option ℕ → LinkState
after_put s x own = record {
  turns = s.turns;
  lane = option_map (λ e. went_on e x) s.lane;
  own_code = own;
  gave_text = s.gave_text;
  gave = s.gave;
  sent = s.sent ++ x ∷ [];
  plan = after_call s.plan;
}

-- a text goes to an end that is not known to have left
abbrev pub MayGoOut : Option LaneEnds → Sending → Type 0
MayGoOut None x = Unit {0}
MayGoOut (Some e) x = MayGo e x

-- something goes out to the other end
abbrev pub GoesOut : LinkState → LinkState → Sending → Result (Unit {0}) Fault → Type 0
GoesOut old new x (Ok u) = MayGoOut old.lane x × (new ≡ after_put old x old.own_code)
GoesOut old new x (Err Failed) = Refuses old new x
GoesOut old new x (Err Memory) = new ≡ old

-- a call of `send` or `close` on a link that this end has not closed
abbrev pub PutsOpen : LinkState → LinkState → Sending → Option ℕ → Result (Unit {0}) Fault → Type 0
PutsOpen old new x own (Ok u) = (fails old.plan ≡ false) × MayGoOut old.lane x × (new ≡ after_put old x own)
PutsOpen old new x own (Err Failed) = Fails old new x
PutsOpen old new x own (Err Memory) = new ≡ old

-- a call of `send` or `close`; after the link's own close no call is counted and nothing changes
abbrev pub PutsOut : LinkState → LinkState → Sending → Option ℕ → Result (Unit {0}) Fault → Type 0
PutsOut old new x own result = MatchOption old.own_code (PutsOpen old new x own result) (λ code. new ≡ old)

-- what is kept of a link that is back
abbrev pub kept_link : LinkState → ReturnedLink
kept_link s = returned_link (tale_of s) s.plan.faults
