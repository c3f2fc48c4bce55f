-- the outputs so far went out
use Rattle.std.proofs.Common.{◌≡◌, ◌++◌, length}
use Rattle.std.specs.Vec.Iter.{into_iter_items, into_iter_len}
use Rattle.open_links.specs.Calls.{IsSameDoor}
use Rattle.worker_run.specs.Histories.{given_out}
use Rattle.worker_run.specs.Moves.{IsReady, Gives}
use Rattle.worker_run.proofs.serving.Serving.give_all.Given as goal

abbrev pub invariant-loop-output : goal.invariant-loop-output
invariant-loop-output g l = record {
  all : l.yielded ++ into_iter_items l.output-iterator ≡ into_iter_items l.initial.output-iterator;
  count : into_iter_len l.output-iterator ≡ length (into_iter_items l.output-iterator);
  ready : IsReady l.posts l.self (g.D.Door.tale l.door);
  door : IsSameDoor (g.D.Door.tale l.fn.door) (g.D.Door.tale l.door);
  faults : g.D.Door.faults l.door ≡ g.D.Door.faults l.fn.door;
  gives : Gives (given_out l.yielded) l.fn.self l.self (g.D.Door.tale l.fn.door).returned (g.D.Door.tale l.door).returned;
}
