use Rattle.std.proofs.Common.{refl}
use Rattle.world_law.specs.Inputs.{Tick}
use Rattle.worker_run.specs.Moves.{IsOneTick, now}
use Rattle.worker_run.proofs.Shapes.{one_kept}
use Rattle.open_links.proofs.Composing.{goes_by_nothing}
use Rattle.worker_run.proofs.Turning.{comes_by}
use Rattle.worker_run.proofs.Readying.{counts_same, handling, handling_counts, handling_fails, any_clock}
use Rattle.worker_run.proofs.serving.Serving.tick.Goals as goal

pub returns-clause-count : goal.returns-clause-count
returns-clause-count g c =
    let s = c.args.self.now in
    let d = g.D.Door.tale c.args.door.now in
    let b = now s d.returned (g.J.Notes.noted c.args.notes.now) any_clock in
    let e = now c.handle.new.self (g.D.Door.tale c.handle.new.door).returned (g.J.Notes.noted c.handle.new.notes) any_clock in
    counts_same s c.handle.new.self d (g.D.Door.tale c.handle.new.door)
    (handling_counts (Tick c.now_ms-now.result) b e c.handle.result (c.handle.ensures.handles (Tick c.now_ms-now.result) any_clock refl)) c.handle.ensures.door.given

pub returns-clause-cause : goal.returns-clause-cause
returns-clause-cause g c =
    let b = now c.args.self.now (g.D.Door.tale c.args.door.now).returned (g.J.Notes.noted c.args.notes.now) any_clock in
    let e = now c.handle.new.self (g.D.Door.tale c.handle.new.door).returned (g.J.Notes.noted c.handle.new.notes) any_clock in
    handling_fails (Tick c.now_ms-now.result) b e c.handle.result (g.D.Door.faults c.args.door.now) (g.D.Door.faults c.handle.new.door)
    (c.handle.ensures.handles (Tick c.now_ms-now.result) any_clock refl) c.handle.ensures.faults

pub returns-clause-goes : goal.returns-clause-goes
returns-clause-goes g c =
    let s = c.args.self.now in
    let back = (g.D.Door.tale c.args.door.now).returned in
    let noted = g.J.Notes.noted c.args.notes.now in
    let before = g.C.Clock.tale c.args.clock.now in
    let after = g.C.Clock.tale c.now_ms-now.new.self in
    let a = now s back noted before in
    let b = now s back noted after in
    let e = now c.handle.new.self (g.D.Door.tale c.handle.new.door).returned (g.J.Notes.noted c.handle.new.notes) after in
    handling IsOneTick (Tick c.now_ms-now.result) a b e
    (comes_by (Tick c.now_ms-now.result) a b refl c.requires.ready.readers refl refl refl refl (after, (c.now_ms-now.ensures, refl)))
    (goes_by_nothing s.links back) c.requires.ready.readers
    (λ h losses. (c.now_ms-now.result, one_kept (Tick c.now_ms-now.result) h refl losses))
    c.handle.result (c.handle.ensures.handles (Tick c.now_ms-now.result) after refl)
