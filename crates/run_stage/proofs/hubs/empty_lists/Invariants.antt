use Rattle.std.proofs.Common.{[]}
use Rattle.run_stage.specs.Hubs.{HasReaders}
use Rattle.run_stage.proofs.hubs.empty_lists.Given as goal

abbrev pub invariant-loop : goal.invariant-loop
invariant-loop l = HasReaders l.counter [] l.lists.items
