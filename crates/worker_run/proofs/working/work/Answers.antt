use Rattle.std.proofs.Common.{[]}
use Rattle.std.proofs.lemmas.Result.{err_from_is_err_and}
use Rattle.worker_run.proofs.Outcomes.{ready_at_start, works_not, works_whole, works_cut}
use Rattle.worker_run.proofs.Readying.{passed_on}
use Rattle.worker_run.proofs.working.work.Goals as goal

pub returns-in_default-clause-works : goal.returns-in_default-clause-works
returns-in_default-clause-works g c = (
  [],
  works_not c.the_law.ensures.law c.args.worker (g.D.Door.tale c.args.door.now) (g.D.Door.faults c.args.door.now) (g.C.Clock.tale c.args.clock.now) c.args.readers.now.items
      c.args.passes.now.items c.end_all.new.passes.items (g.J.Notes.noted c.args.notes.now) c.requires.readers.0 c.end_all.ensures,
)

pub run-worked-requires : goal.run-worked-requires
run-worked-requires g c = record {
  ready = ready_at_start c.args.posts.now c.args.worker c.args.readers.now.items c.args.passes.now.items c.new-serving.result (g.D.Door.tale c.args.door.now) c.new-serving.ensures
      c.requires.posts c.requires.passes c.requires.readers.0 c.requires.readers.1;
}

pub returns-in_err-worked-clause-works : goal.returns-in_err-worked-clause-works
returns-in_err-worked-clause-works g c =
    let r = c.from_residual.result in
    let e = err_from_is_err_and r c.from_residual.ensures.1 in
    let f = c.in_err-worked.field-0.0 in
    works_cut c.args.worker c.args.readers.now.items c.hand_back.new.readers.items c.args.passes.now.items c.hand_back.new.passes.items c.new-serving.result c.run-worked.new.self
    (g.D.Door.tale c.args.door.now) (g.D.Door.tale c.run-worked.new.door) (g.D.Door.tale c.hand_back.new.door) (g.D.Door.faults c.args.door.now) (g.D.Door.faults c.run-worked.new.door) (g.D.Door.faults c.hand_back.new.door)
    (g.C.Clock.tale c.args.clock.now) (g.C.Clock.tale c.run-worked.new.clock) (g.J.Notes.noted c.args.notes.now) (g.J.Notes.noted c.run-worked.new.notes)
    c.run-worked.result r f c.in_err-worked.was (passed_on r e.0 f e.1 e.2)
    (record {
      law = c.the_law.ensures.law;
      starts = c.new-serving.ensures;
      counts = c.run-worked.ensures.count;
      cause = c.run-worked.ensures.cause;
      over = c.run-worked.ensures.over;
      runs = c.run-worked.ensures.runs;
      back = c.hand_back.ensures.back;
      same = c.hand_back.ensures.door;
      faults = c.hand_back.ensures.faults;
      readers_back = c.hand_back.ensures.readers;
      passes_back = c.hand_back.ensures.passes;
    })

pub returns-clause-works : goal.returns-clause-works
returns-clause-works g c =
    works_whole c.args.worker c.args.readers.now.items c.hand_back.new.readers.items c.args.passes.now.items c.hand_back.new.passes.items c.new-serving.result c.run-worked.new.self
    (g.D.Door.tale c.args.door.now) (g.D.Door.tale c.run-worked.new.door) (g.D.Door.tale c.hand_back.new.door) (g.D.Door.faults c.args.door.now) (g.D.Door.faults c.run-worked.new.door) (g.D.Door.faults c.hand_back.new.door)
    (g.C.Clock.tale c.args.clock.now) (g.C.Clock.tale c.run-worked.new.clock) (g.J.Notes.noted c.args.notes.now) (g.J.Notes.noted c.run-worked.new.notes)
    c.run-worked.result c.in_ok-worked.field-0 c.report-report.result c.in_ok-worked.was
    (record {
      law = c.the_law.ensures.law;
      starts = c.new-serving.ensures;
      counts = c.run-worked.ensures.count;
      cause = c.run-worked.ensures.cause;
      over = c.run-worked.ensures.over;
      runs = c.run-worked.ensures.runs;
      back = c.hand_back.ensures.back;
      same = c.hand_back.ensures.door;
      faults = c.hand_back.ensures.faults;
      readers_back = c.hand_back.ensures.readers;
      passes_back = c.hand_back.ensures.passes;
    })
    c.report-report.ensures
