-- internal: cited by private functions only. What the fields of a door's and a dial's ends of their queue say.
use Rattle.std.specs.Prelude.{◌≡◌, ℕ, ◌<◌, true, false, length, get_or}
use Rattle.crossbeam_queue.specs.SegTies.{IsSegPassOf}
use Rattle.thread_outside.specs.declared.call_taker.CallTaker.TheInside as taker
use Rattle.thread_outside.specs.CallLists.{has_ended}

pub record IsCallTaker (t : taker.Inside) : Type 0 where
  pub pass : IsSegPassOf t.calls.value t.pass
  pub takes : t.pass.me.view.client.takes ≡ true
  pub made : t.pass.me.view.client.made ≡ length t.ended.items
  pub ended : (p : ℕ) → p < length t.ended.items → get_or t.ended.items p false ≡ has_ended p t.pass.me.view.client.taken
