use Rattle.channel_edit.proofs.Threads.{channel_then_threads}
use Rattle.channel_edit.proofs.channel_delete.drop_messages.Goals as goal

pub returns : goal.returns
returns c = rw (c.drop_thread_messages.ensures, c.as_slice.ensures.items, c.remove_in.ensures) (channel_then_threads c.args.threads.now c.args.channel c.args.messages.now)
