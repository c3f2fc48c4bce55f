use Rattle.std.proofs.Common.{◌≡◌, map, take}
use Rattle.std.specs.Prelude.{filter, ◌&&◌}
use Rattle.guild_model.specs.declared.thread.Thread.{Thread}
use Rattle.guild_model.specs.Sight.{member_sees}
use Rattle.dispatch_types.specs.Projection.{is_active}
use Rattle.edit_events.specs.Greeting.{thread_told}
use Rattle.edit_events.proofs.create.threads.Given as goal

abbrev pub invariant-loop-thread : goal.invariant-loop-thread
invariant-loop-thread l = l.told ≡ map (thread_told l.part l.viewer) (filter (λ (t : Thread). is_active t && member_sees l.part l.me t) (take l.thread-index l.threads))
