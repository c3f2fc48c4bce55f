use Rattle.std.proofs.Common.{◌≡◌, ◌++◌, take}
use Rattle.event_views.specs.Threads.{user_leaves}
use Rattle.role_member_events.proofs.members.add_each_left.Given as goal

abbrev pub invariant-loop-thread : goal.invariant-loop-thread
invariant-loop-thread l = l.list.items ≡ l.fn.list.items ++ user_leaves l.to.after.id l.to.viewer l.user l.to.after.threads (take l.thread-index l.threads)
