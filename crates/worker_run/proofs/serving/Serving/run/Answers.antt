use Rattle.std.proofs.lemmas.Result.{err_from_is_err_and}
use Rattle.worker_run.specs.Moves.{now}
use Rattle.worker_run.proofs.Readying.{passed_on}
use Rattle.worker_run.proofs.Whole.{runs_cut, runs_all, cause_on}
use Rattle.worker_run.proofs.serving.Serving.run.Goals as goal

pub returns-in_err-served-clause-runs : goal.returns-in_err-served-clause-runs
returns-in_err-served-clause-runs g c =
    let d = g.D.Door.tale c.args.door.now in
    let a = now c.args.self.now d.returned (g.J.Notes.noted c.args.notes.now) (g.C.Clock.tale c.args.clock.now) in
    let d1 = g.D.Door.tale c.serve-served.new.door in
    let noted = g.J.Notes.noted c.serve-served.new.notes in
    let clock = g.C.Clock.tale c.serve-served.new.clock in
    let r = c.from_residual.result in
    let e = err_from_is_err_and r c.from_residual.ensures.1 in
    let f = c.in_err-served.field-0.0 in
    runs_cut a c.serve-served.new.self c.end_passes.new.self d1.returned noted clock r c.serve-served.result f (passed_on r e.0 f e.1 e.2) c.in_err-served.was c.end_passes.ensures c.serve-served.ensures.goes

pub returns-clause-cause : goal.returns-clause-cause
returns-clause-cause g c =
    let n = g.D.Door.faults c.args.door.now in
    let n1 = g.D.Door.faults c.serve-served.new.door in
    cause_on n n1 c.serve-served.result c.in_ok-served.field-0 c.drain.result c.in_ok-served.was c.serve-served.ensures.cause (c.drain.ensures.cause n1)

pub returns-clause-runs : goal.returns-clause-runs
returns-clause-runs g c =
    let d = g.D.Door.tale c.args.door.now in
    let a = now c.args.self.now d.returned (g.J.Notes.noted c.args.notes.now) (g.C.Clock.tale c.args.clock.now) in
    let back = (g.D.Door.tale c.serve-served.new.door).returned in
    let m = g.J.Notes.noted c.serve-served.new.notes in
    let n = g.J.Notes.noted c.drain.new.notes in
    let time = g.C.Clock.tale c.serve-served.new.clock in
    let later = g.C.Clock.tale c.drain.new.clock in
    runs_all a c.serve-served.new.self c.end_passes.new.self c.drain.new.self back m n time later c.serve-served.result c.in_ok-served.field-0 c.drain.result
    c.in_ok-served.was c.end_passes.ensures c.drain.ensures.same c.serve-served.ensures.goes (c.drain.ensures.goes back)
