use Rattle.std.proofs.Common.{◌≡◌, drop}
use Rattle.channel_edit.proofs.Threads.{without_threads}
use Rattle.channel_edit.proofs.channel_delete.drop_thread_messages.Given as goal

-- what the threads from here on leave is what all of them leave
abbrev pub invariant-loop-thread : goal.invariant-loop-thread
invariant-loop-thread l = without_threads (drop l.thread-index l.threads) l.channel l.messages ≡ without_threads l.threads l.channel l.fn.messages
