use Rattle.std.proofs.Common.{◌≡◌, ◌+◌, drop, length}
use Rattle.run_stage.specs.Dealing.{AreFrom}
use Rattle.serve_stage.specs.Drafts.{IsWorkerDraft}
use Rattle.serve_stage.proofs.workers.add_workers.Given as goal

abbrev pub invariant-loop-number : goal.invariant-loop-number
invariant-loop-number g l = record {
  passes : l.supply.passes.items ≡ drop l.number l.fn.supply.passes.items;
  readers : l.supply.readers.items ≡ drop l.number l.fn.supply.readers.items;
  seats : length l.supply.seats.left.items + l.number ≡ length l.fn.supply.seats.left.items;
  drafts : AreFrom (IsWorkerDraft l.fn.ground.posts l.fn.supply.passes.items l.fn.supply.readers.items l.fn.declared.bots.items l.fn.declared.guilds.items l.fn.port) 0 l.number l.drafts.items;
}
