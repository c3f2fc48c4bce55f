use Rattle.std.proofs.Common.{◌≡◌, map, take}
use Rattle.std.specs.Prelude.{filter, ◌&&◌}
use Rattle.guild_model.specs.declared.thread.Thread.{Thread}
use Rattle.guild_model.specs.Sight.{sees_in, is_in}
use Rattle.dispatch_types.specs.Projection.{is_active, thread_view}
use Rattle.projection.proofs.threads.views.Given as goal

abbrev pub invariant-loop-thread : goal.invariant-loop-thread
invariant-loop-thread l = l.views.items ≡ map (thread_view l.intents l.user) (filter (λ (t : Thread). is_active t && sees_in l.standing t.parent t.kind (is_in l.standing.me.user.id t)) (take l.thread-index l.threads))
