use Rattle.std.proofs.Common.{◌≡◌, ◌+◌, ◌-◌, drop}
use Rattle.run_stage.specs.Dealing.{AreFrom}
use Rattle.run_stage.specs.Posts.{ArePassesOf}
use Rattle.run_stage.specs.Seats.{HasSeats}
use Rattle.load_stage.specs.Drafts.{IsWorkerDraft}
use Rattle.load_stage.proofs.workers.add_workers.Given as goal

abbrev pub invariant-loop-number : goal.invariant-loop-number
invariant-loop-number g l = record {
  doors : l.served.doors.items ≡ drop l.number l.fn.served.doors.items;
  readers : l.served.readers.items ≡ drop l.number l.fn.served.readers.items;
  passes : AreFrom (ArePassesOf l.fn.ground.posts) (4 + l.number) (3 - l.number) l.passes.items;
  seats : HasSeats 22 (6 + l.number) (16 - l.number) l.seats;
  keeper : l.seats.keeper ≡ l.fn.seats.keeper;
  drafts : AreFrom (IsWorkerDraft l.fn.ground.posts l.fn.seats.keeper.flag l.fn.served.doors.items l.fn.served.readers.items) 0 l.number l.drafts.items;
}
