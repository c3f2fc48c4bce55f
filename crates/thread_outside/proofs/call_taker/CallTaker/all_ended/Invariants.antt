use Rattle.std.proofs.Common.{◌≡◌, ◌<◌, ℕ, true, false, get_or}
use Rattle.thread_outside.proofs.call_taker.CallTaker.all_ended.Given as goal

abbrev pub invariant-loop-dial : goal.invariant-loop-dial
invariant-loop-dial l = (p : ℕ) → p < l.dial → get_or l.self-inside.ended.items p false ≡ true
