-- The rule of a lane: what was taken, and then what waits, is what was put.
use Rattle.std.specs.Prelude.{◌≡◌, ℕ, ◌+◌, ◌-◌, Bool, true, false, List, [], ◌∷◌, ◌++◌, Result, Ok, Err}
use Rattle.std.specs.declared.alloc.Global.{Global}
use Rattle.std.specs.declared.option.Option.{Option}
use Rattle.std.specs.declared.option.Option.TheVariants.{Some, None}
use mathlib.Core.Option.{some}
use lib.ListN.{get_elem?}
use Rattle.atomic_table.specs.Seated.{TableId}
use Rattle.crossbeam_queue.specs.SegTies.{SegId}
use Rattle.gate_outside.specs.declared.faults.Fault.{Fault}
use Rattle.gate_outside.specs.declared.faults.Fault.TheVariants.{Failed, Memory}
use Rattle.gate_outside.specs.declared.sending.Sending.{Sending}
use Rattle.gate_outside.specs.declared.sending.Sending.TheVariants as sending
use Rattle.thread_outside.specs.declared.lane_view.LaneView.{LaneView}

abbrev pub view_of : Bool → List Sending → Bool → List Sending → ℕ → LaneView
view_of puts put takes taken empty_takes = record {
  puts = puts;
  put = put;
  takes = takes;
  taken = taken;
  empty_takes = empty_takes;
}

-- the one pass of a new lane, before it is split
abbrev pub opening : LaneView
opening = view_of true [] true [] 0

-- the two passes that it is split into
abbrev pub putter : LaneView → LaneView
putter v = view_of true v.put false [] 0

abbrev pub taker : LaneView → LaneView
taker v = view_of false [] true v.taken v.empty_takes

abbrev pub after_put : LaneView → Sending → LaneView
after_put v x = view_of v.puts (v.put ++ x ∷ []) v.takes v.taken v.empty_takes

abbrev pub after_take : LaneView → Sending → LaneView
after_take v x = view_of v.puts v.put v.takes (v.taken ++ x ∷ []) v.empty_takes

-- a pass that was made to count a take, and that does nothing
abbrev pub spent : LaneView
spent = view_of false [] false [] 0

-- the end that takes with one more take that finds nothing, which it counts before it looks
abbrev pub with_empty_take : LaneView → LaneView
with_empty_take v = view_of v.puts v.put v.takes v.taken (v.empty_takes + 1)

-- after a take that it had counted so, and that found something after all
abbrev pub took_after_all : LaneView → Sending → LaneView
took_after_all v x = view_of v.puts v.put v.takes (v.taken ++ x ∷ []) (v.empty_takes - 1)

-- Each pass has an index in `views`: the one that puts has the index `put_at`, the one that takes has the index `take_at`.
pub record KeepsAll (items : List Sending) (views : List LaneView) : Type 0 where
  pub put_at : ℕ
  pub take_at : ℕ
  pub taken : List Sending
  pub putters : (j : ℕ) (v : LaneView) → get_elem? views j ≡ some v → v.puts ≡ true → (j ≡ put_at) × (v.put ≡ taken ++ items)
  pub takers : (j : ℕ) (v : LaneView) → get_elem? views j ≡ some v → v.takes ≡ true → (j ≡ take_at) × (v.taken ≡ taken)

-- at one step the lane was empty, and this pass knew this
abbrev pub WasEmpty : LaneView → Type 0
WasEmpty v = (views : List LaneView) × (port : ℕ) × KeepsAll [] views × (get_elem? views port ≡ some v)

-- which lane it is: its queue, and the flag that is up once the end that puts has left
pub record LaneId : Type 0 where
  pub queue : SegId Global
  pub flag : TableId

-- which lane an end takes from, which it puts into, what it knows of them, and whether it has found that the other
-- end has left
pub record LaneEnds : Type 0 where
  pub from : LaneId
  pub to : LaneId
  pub came : LaneView
  pub went : LaneView
  pub is_left : Bool

-- an end before its first call
abbrev pub new_ends : LaneId → LaneId → LaneEnds
new_ends from to = record { from = from; to = to; came = taker opening; went = putter opening; is_left = false }

abbrev pub came_on : LaneEnds → Sending → LaneEnds
came_on e x = record { from = e.from; to = e.to; came = after_take e.came x; went = e.went; is_left = e.is_left }

abbrev pub came_none : LaneEnds → LaneEnds
came_none e = record { from = e.from; to = e.to; came = with_empty_take e.came; went = e.went; is_left = e.is_left }

abbrev pub went_on : LaneEnds → Sending → LaneEnds
went_on e x = record { from = e.from; to = e.to; came = e.came; went = after_put e.went x; is_left = e.is_left }

abbrev pub found_left : LaneEnds → LaneEnds
found_left e = record { from = e.from; to = e.to; came = e.came; went = e.went; is_left = true }

-- an end takes what waits first; it takes nothing, and fails, only if the lane was empty at one step of the call,
-- which it counted before; it fails only if it has found that the other end has left
abbrev pub TakesLane : Option LaneEnds → Option LaneEnds → Result (Option Sending) Fault → Type 0
TakesLane None new result = new ≡ None
TakesLane (Some e) new (Ok None) = (new ≡ Some (came_none e)) × WasEmpty (with_empty_take e.came)
TakesLane (Some e) new (Ok (Some x)) = new ≡ Some (came_on e x)
TakesLane (Some e) new (Err Failed) = (new ≡ Some (found_left (came_none e))) × WasEmpty (with_empty_take e.came)
TakesLane (Some e) new (Err Memory) = new ≡ Some e

-- a text goes to an end that is not known to have left, a close code to any
abbrev pub MayGo : LaneEnds → Sending → Type 0
MayGo e (sending.Text text) = e.is_left ≡ false
MayGo e (sending.Close code) = Unit {0}

-- a text alone is refused, and only if the other end is found to have left
abbrev pub RefusesLane : LaneEnds → Option LaneEnds → Sending → Type 0
RefusesLane e new (sending.Text text) = new ≡ Some (found_left e)
RefusesLane e new (sending.Close code) = ⊥

-- an end puts at the back; a refusal puts nothing
abbrev pub PutsLane : Option LaneEnds → Option LaneEnds → Sending → Result (Unit {0}) Fault → Type 0
PutsLane None new x result = new ≡ None
PutsLane (Some e) new x (Ok u) = MayGo e x × (new ≡ Some (went_on e x))
PutsLane (Some e) new x (Err Failed) = RefusesLane e new x
PutsLane (Some e) new x (Err Memory) = new ≡ Some e
