use Rattle.std.proofs.Common.{◌≤◌, ◌∙◌, length, arith}
use Rattle.channel_edit.proofs.Threads.{thread_by_thread, none_left}
use Rattle.channel_edit.proofs.channel_delete.drop_thread_messages.Goals as goal

pub returns : goal.returns
returns c =
    let le : length c.args.threads.now ≤ c.loop-thread.thread-index = omega (arith, c.loop-thread-test.false) in
    none_left c.args.threads.now c.loop-thread.thread-index c.args.channel c.loop-thread.messages le
    ∙ (c.loop-thread.invariant ∙ thread_by_thread c.args.threads.now c.args.channel c.args.messages.now c.requires)
