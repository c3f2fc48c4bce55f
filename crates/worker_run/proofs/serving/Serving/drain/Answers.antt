use Rattle.std.proofs.Common.{◌∙◌, List, ℕ, None, refl, sym, subst}
use Rattle.std.proofs.lemmas.Result.{err_from_is_err_and}
use Rattle.gate_outside.specs.Clocks.{ClockTale}
use Rattle.guild_places.specs.Places.{AreDistinct, guilds_of}
use Rattle.worker_run.specs.Moves.{AreAllTurns, AreAllTurnsCut, now}
use Rattle.worker_run.specs.Running.{Quietly}
use Rattle.worker_run.proofs.Composing.{Went, guilds_after}
use Rattle.worker_run.proofs.LastTurns.{same_on, none_open, quiet_turns_none, quiet_turns_on, quiet_turns_stopped}
use Rattle.worker_run.proofs.Readying.{stops_by, passed_on, fails_of, fails_at}
use Rattle.worker_run.proofs.serving.Serving.drain.Goals as goal

pub loop-init : goal.loop-init
loop-init g c =
    let s = c.args.self.now in
    record {
      readers = c.requires.readers;
      same = refl;
      guilds = refl;
      goes = λ back. quiet_turns_none (guilds_of s.readers) (now s back (g.J.Notes.noted c.args.notes.now) (g.C.Clock.tale c.args.clock.now)) c.requires.readers;
    }

pub turn_quietly-requires-clause-readers : goal.turn_quietly-requires-clause-readers
turn_quietly-requires-clause-readers g c = c.loop.invariant.readers

pub turn_quietly-requires-clause-distinct : goal.turn_quietly-requires-clause-distinct
turn_quietly-requires-clause-distinct g c = subst (λ (gs : List ℕ). AreDistinct gs) (sym c.loop.invariant.guilds) c.requires.distinct

pub turn_quietly-requires-clause-links : goal.turn_quietly-requires-clause-links
turn_quietly-requires-clause-links g c = none_open c.args.self.now c.loop.self c.loop.invariant.same c.requires.links

pub returns-in_err-looked-clause-same : goal.returns-in_err-looked-clause-same
returns-in_err-looked-clause-same g c = same_on c.args.self.now c.loop.self c.turn_quietly.new.self c.loop.invariant.same c.in_err-looked.ensures.same

pub returns-in_err-looked-clause-goes : goal.returns-in_err-looked-clause-goes
returns-in_err-looked-clause-goes g c back =
    let s = c.args.self.now in
    let t = c.loop.self in
    let u = c.turn_quietly.new.self in
    let a = now s back (g.J.Notes.noted c.args.notes.now) (g.C.Clock.tale c.args.clock.now) in
    let b = now t back (g.J.Notes.noted c.loop.notes) (g.C.Clock.tale c.loop.clock) in
    let w = now u back (g.J.Notes.noted c.turn_quietly.new.notes) (g.C.Clock.tale c.turn_quietly.new.clock) in
    let gs = guilds_of s.readers in
    let r = c.from_residual.result in
    let e = err_from_is_err_and r c.from_residual.ensures.1 in
    let f = c.in_err-looked.field-0.0 in
    stops_by (Quietly (AreAllTurns gs)) (Quietly (AreAllTurnsCut gs)) r f a w (passed_on r e.0 f e.1 e.2)
    (quiet_turns_stopped gs (guilds_of t.readers) c.loop.invariant.guilds a b w (c.loop.invariant.goes back) f (c.in_err-looked.ensures.goes back))

pub returns-then-looked-clause-same : goal.returns-then-looked-clause-same
returns-then-looked-clause-same g c = same_on c.args.self.now c.loop.self c.turn_quietly.new.self c.loop.invariant.same c.in_ok-looked.ensures.same

pub returns-then-looked-clause-goes : goal.returns-then-looked-clause-goes
returns-then-looked-clause-goes g c back =
    let s = c.args.self.now in
    let t = c.loop.self in
    let u = c.turn_quietly.new.self in
    let a = now s back (g.J.Notes.noted c.args.notes.now) (g.C.Clock.tale c.args.clock.now) in
    let b = now t back (g.J.Notes.noted c.loop.notes) (g.C.Clock.tale c.loop.clock) in
    let w = now u back (g.J.Notes.noted c.turn_quietly.new.notes) (g.C.Clock.tale c.turn_quietly.new.clock) in
    quiet_turns_on (guilds_of s.readers) (guilds_of t.readers) c.loop.invariant.guilds a b w (c.loop.invariant.goes back) (c.in_ok-looked.ensures.goes back)

pub loop-preserved : goal.loop-preserved
loop-preserved g c =
    let s = c.args.self.now in
    let t = c.loop.self in
    let u = c.turn_quietly.new.self in
    let before = g.J.Notes.noted c.args.notes.now in
    let mid = g.J.Notes.noted c.loop.notes in
    let after = g.J.Notes.noted c.turn_quietly.new.notes in
    let first = g.C.Clock.tale c.args.clock.now in
    let second = g.C.Clock.tale c.loop.clock in
    let last = g.C.Clock.tale c.turn_quietly.new.clock in
    let one = c.in_ok-looked.ensures.goes None in
    record {
      readers = c.in_ok-looked.ensures.readers;
      same = same_on s t u c.loop.invariant.same c.in_ok-looked.ensures.same;
      guilds = guilds_after one.0 (now t None mid second) (now u None after last) one.1.0 ∙ c.loop.invariant.guilds;
      goes = λ back.
          subst (λ (clock : ClockTale). Went (Quietly (AreAllTurns (guilds_of s.readers))) (now s back before first) (now u back after clock)) (sym c.pause_unless.ensures)
          (quiet_turns_on (guilds_of s.readers) (guilds_of t.readers) c.loop.invariant.guilds (now s back before first) (now t back mid second) (now u back after last)
          (c.loop.invariant.goes back) (c.in_ok-looked.ensures.goes back));
    }

pub returns-in_err-looked-clause-cause : goal.returns-in_err-looked-clause-cause
returns-in_err-looked-clause-cause g c faults =
    let r = c.from_residual.result in
    let e = err_from_is_err_and r c.from_residual.ensures.1 in
    let f = c.in_err-looked.field-0.0 in
    fails_of faults faults f r (passed_on r e.0 f e.1 e.2) (fails_at faults faults f c.turn_quietly.result c.in_err-looked.was (c.turn_quietly.ensures.cause faults))
