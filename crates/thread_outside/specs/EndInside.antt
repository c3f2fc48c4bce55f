-- internal: cited by private functions only. What an end holds of the lane that it takes from, and of that which it puts into.
use Rattle.std.specs.Prelude.{◌≡◌, true, false}
use Rattle.crossbeam_queue.specs.SegTies.{IsSegPassOf}
use Rattle.thread_outside.specs.declared.lane.Putting.{Putting}
use Rattle.thread_outside.specs.declared.lane.Taking.{Taking}
use Rattle.thread_outside.specs.Lanes.{LaneId}

pub record Takes (lane : LaneId) (t : Taking) : Type 0 where
  pub pass : IsSegPassOf lane.queue t.pass
  pub takes : t.pass.me.view.client.takes ≡ true
  pub seat : t.seat.table_id ≡ lane.flag
  pub finds : (t.seat.me.0.takes ≡ true) × (t.seat.me.0.puts ≡ false)

pub record Puts (lane : LaneId) (p : Putting) : Type 0 where
  pub pass : IsSegPassOf lane.queue p.pass
  pub puts : p.pass.me.view.client.puts ≡ true
  pub seat : p.seat.table_id ≡ lane.flag
  pub leaves : (p.seat.me.0.puts ≡ true) × (p.seat.me.0.takes ≡ false) × (p.seat.me.0.left ≡ false)
