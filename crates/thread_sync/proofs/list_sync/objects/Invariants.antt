use Rattle.std.proofs.Common.{◌≡◌, map, take}
use Rattle.dispatch_types.specs.Objects.{thread_object}
use Rattle.thread_sync.proofs.list_sync.objects.Given as goal

abbrev pub invariant-loop-thread : goal.invariant-loop-thread
invariant-loop-thread l = l.objects ≡ map (thread_object l.guild) (map (λ thread. thread.now) (take l.thread-index l.threads))
