-- There are as many sessions as before.
use Rattle.std.proofs.Common.{List}
use Rattle.dispatch_types.specs.declared.dispatch.Dispatch.{Dispatch}
use Rattle.worker_core.proofs.due.SharedDispatches.tell.Goals as goal
use Rattle.worker_core.proofs.Telling.{kept_many}

pub returns-clause-as_many : goal.returns-clause-as_many
returns-clause-as_many c =
    let ds : List Dispatch = c.as_slice-dispatches.result.now in
    kept_many c.tell_written.result c.args.index (λ x. ds) c.args.sessions.now c.tell_written.new.sessions c.args.out.now.items c.tell_written.new.out.items c.requires c.tell_written.ensures
