use Rattle.std.proofs.Common.{refl}
use Rattle.std.proofs.lemmas.Result.{err_from_is_err_and}
use Rattle.world_law.specs.Inputs.{Tick}
use Rattle.guild_places.specs.Places.{guilds_of}
use Rattle.worker_run.specs.Moves.{IsOneTurn, IsOneTurnCut, now}
use Rattle.worker_run.specs.Running.{Quietly}
use Rattle.worker_run.proofs.LastTurns.{none_open, quiet_tick_goes, quiet_tick_stops, quiet_stopped_looks, quiet_turn, quiet_stopped_tick}
use Rattle.worker_run.proofs.Readying.{stops_by, passed_on, fails_of, fails_at}
use Rattle.worker_run.proofs.Whole.{not_of_door}
use Rattle.worker_run.proofs.serving.Serving.turn_quietly.Goals as goal

pub returns-in_err-looked-clause-goes : goal.returns-in_err-looked-clause-goes
returns-in_err-looked-clause-goes g c back =
    let gs = guilds_of c.args.self.now.readers in
    let clock = g.C.Clock.tale c.args.clock.now in
    let a = now c.args.self.now back (g.J.Notes.noted c.args.notes.now) clock in
    let b = now c.look_quietly_at_each.new.self back (g.J.Notes.noted c.look_quietly_at_each.new.notes) clock in
    let r = c.from_residual.result in
    let e = err_from_is_err_and r c.from_residual.ensures.1 in
    let f = c.in_err-looked.field-0.0 in
    stops_by (Quietly (IsOneTurn gs)) (Quietly (IsOneTurnCut gs)) r f a b (passed_on r e.0 f e.1 e.2) (quiet_stopped_looks gs a b f (c.in_err-looked.ensures.goes back clock))

pub returns-in_err-take_quietly-clause-goes : goal.returns-in_err-take_quietly-clause-goes
returns-in_err-take_quietly-clause-goes g c back =
    let gs = guilds_of c.args.self.now.readers in
    let t = c.look_quietly_at_each.new.self in
    let u = c.take_quietly.new.self in
    let clock = g.C.Clock.tale c.args.clock.now in
    let later = g.C.Clock.tale c.now_ms-now.new.self in
    let mid = g.J.Notes.noted c.look_quietly_at_each.new.notes in
    let after = g.J.Notes.noted c.take_quietly.new.notes in
    let moment = c.now_ms-now.result in
    let a = now c.args.self.now back (g.J.Notes.noted c.args.notes.now) clock in
    let r = c.from_residual-in_err-take_quietly.result in
    let e = err_from_is_err_and r c.from_residual-in_err-take_quietly.ensures.1 in
    let f = c.in_err-take_quietly.field-0.0 in
    let none = none_open c.args.self.now t c.in_ok-looked.ensures.same c.requires.links in
    stops_by (Quietly (IsOneTurn gs)) (Quietly (IsOneTurnCut gs)) r f a (now u back after later) (passed_on r e.0 f e.1 e.2)
    (quiet_stopped_tick gs a (now t back mid clock) (now u back after later) (c.in_ok-looked.ensures.goes back clock) f
    (quiet_tick_stops t u c.in_err-take_quietly.ensures.same none c.in_ok-looked.ensures.readers back mid after clock later moment c.now_ms-now.ensures f
    (c.in_err-take_quietly.ensures.takes (Tick moment) refl refl)))

pub returns-clause-goes : goal.returns-clause-goes
returns-clause-goes g c back =
    let gs = guilds_of c.args.self.now.readers in
    let t = c.look_quietly_at_each.new.self in
    let u = c.take_quietly.new.self in
    let clock = g.C.Clock.tale c.args.clock.now in
    let later = g.C.Clock.tale c.now_ms-now.new.self in
    let mid = g.J.Notes.noted c.look_quietly_at_each.new.notes in
    let after = g.J.Notes.noted c.take_quietly.new.notes in
    let moment = c.now_ms-now.result in
    let a = now c.args.self.now back (g.J.Notes.noted c.args.notes.now) clock in
    let none = none_open c.args.self.now t c.in_ok-looked.ensures.same c.requires.links in
    let takes = c.in_ok-take_quietly.ensures.takes (Tick moment) refl refl in
    quiet_turn gs a (now t back mid clock) (now u back after later) (c.in_ok-looked.ensures.goes back clock)
    (quiet_tick_goes t u c.in_ok-take_quietly.ensures.same none c.in_ok-looked.ensures.readers back mid after clock later moment c.now_ms-now.ensures takes.0 takes.1)

pub returns-in_err-looked-clause-cause : goal.returns-in_err-looked-clause-cause
returns-in_err-looked-clause-cause g c faults =
    let r = c.from_residual.result in
    let e = err_from_is_err_and r c.from_residual.ensures.1 in
    let f = c.in_err-looked.field-0.0 in
    fails_of faults faults f r (passed_on r e.0 f e.1 e.2) (fails_at faults faults f c.look_quietly_at_each.result c.in_err-looked.was (c.look_quietly_at_each.ensures.cause faults))

pub returns-in_err-take_quietly-clause-cause : goal.returns-in_err-take_quietly-clause-cause
returns-in_err-take_quietly-clause-cause g c faults =
    let r = c.from_residual-in_err-take_quietly.result in
    let e = err_from_is_err_and r c.from_residual-in_err-take_quietly.ensures.1 in
    let f = c.in_err-take_quietly.field-0.0 in
    fails_of faults faults f r (passed_on r e.0 f e.1 e.2)
    (not_of_door (Tick c.now_ms-now.result) c.look_quietly_at_each.new.self.worker (g.J.Notes.noted c.look_quietly_at_each.new.notes) (g.J.Notes.noted c.take_quietly.new.notes) f faults
    (c.in_err-take_quietly.ensures.takes (Tick c.now_ms-now.result) refl refl))
