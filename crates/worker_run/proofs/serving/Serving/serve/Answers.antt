use Rattle.std.proofs.Common.{◌∙◌, refl, sym, subst}
use Rattle.std.proofs.lemmas.Result.{err_from_is_err_and}
use Rattle.gate_outside.specs.Clocks.{ClockTale}
use Rattle.guild_places.specs.Places.{guilds_of}
use Rattle.worker_run.specs.Moves.{AreAllTurns, AreAllTurnsCut, now}
use Rattle.worker_run.proofs.Readying.{counts_on, counts_same, stops_by, passed_on, fails_of, fails_on, fails_at, on_err}
use Rattle.worker_run.proofs.Composing.{Went, turns_none, turns_on, turns_stopped, guilds_after}
use Rattle.worker_run.proofs.serving.Serving.serve.Goals as goal

pub loop-init : goal.loop-init
loop-init g c =
    let s = c.args.self.now in
    let d = g.D.Door.tale c.args.door.now in
    record {
      ready = c.requires.ready;
      counts = counts_same s s d d refl refl;
      faults = refl;
      goes = turns_none (guilds_of s.readers) (now s d.returned (g.J.Notes.noted c.args.notes.now) (g.C.Clock.tale c.args.clock.now)) c.requires.ready.readers;
    }

pub turn-requires : goal.turn-requires
turn-requires g c = record { ready = c.loop.invariant.ready }

pub returns-in_err-some : goal.returns-in_err-some
returns-in_err-some g c =
    let s = c.args.self.now in
    let t = c.loop.self in
    let u = c.turn.new.self in
    let d = g.D.Door.tale c.args.door.now in
    let d' = g.D.Door.tale c.loop.door in
    let d'' = g.D.Door.tale c.turn.new.door in
    let n = g.D.Door.faults c.args.door.now in
    let n' = g.D.Door.faults c.loop.door in
    let n'' = g.D.Door.faults c.turn.new.door in
    let a = now s d.returned (g.J.Notes.noted c.args.notes.now) (g.C.Clock.tale c.args.clock.now) in
    let b = now t d'.returned (g.J.Notes.noted c.loop.notes) (g.C.Clock.tale c.loop.clock) in
    let w = now u d''.returned (g.J.Notes.noted c.turn.new.notes) (g.C.Clock.tale c.turn.new.clock) in
    let went = c.loop.invariant.goes in
    let r = c.from_residual.result in
    let e = err_from_is_err_and r c.from_residual.ensures.1 in
    let f = c.in_err-some.field-0.0 in
    let is = passed_on r e.0 f e.1 e.2 in
    record {
      ready = c.in_err-some.ensures.ready;
      count = counts_on s t u d d' d'' c.loop.invariant.counts c.in_err-some.ensures.count;
      cause = fails_of n n'' f r is (fails_on n n' n'' f c.loop.invariant.faults (fails_at n' n'' f c.turn.result c.in_err-some.was c.turn.ensures.cause));
      over = on_err _ r f is;
      goes = stops_by (AreAllTurns (guilds_of s.readers)) (AreAllTurnsCut (guilds_of s.readers)) r f a w is
          (turns_stopped (guilds_of s.readers) (guilds_of t.readers) f a b w (guilds_after went.0 a b went.1.0) went c.in_err-some.ensures.goes);
    }

pub returns-then-is_over : goal.returns-then-is_over
returns-then-is_over g c =
    let s = c.args.self.now in
    let t = c.loop.self in
    let u = c.turn.new.self in
    let d = g.D.Door.tale c.args.door.now in
    let d' = g.D.Door.tale c.loop.door in
    let d'' = g.D.Door.tale c.turn.new.door in
    let a = now s d.returned (g.J.Notes.noted c.args.notes.now) (g.C.Clock.tale c.args.clock.now) in
    let b = now t d'.returned (g.J.Notes.noted c.loop.notes) (g.C.Clock.tale c.loop.clock) in
    let w = now u d''.returned (g.J.Notes.noted c.turn.new.notes) (g.C.Clock.tale c.turn.new.clock) in
    let went = c.loop.invariant.goes in
    record {
      ready = c.in_ok-some.ensures.ready;
      count = counts_on s t u d d' d'' c.loop.invariant.counts c.in_ok-some.ensures.count;
      cause = c.in_ok-some.ensures.cause ∙ c.loop.invariant.faults;
      over = c.is_over.ensures.0 c.if-is_over.true;
      goes = turns_on (guilds_of s.readers) (guilds_of t.readers) a b w (guilds_after went.0 a b went.1.0) went c.in_ok-some.ensures.goes;
    }

pub loop-preserved : goal.loop-preserved
loop-preserved g c =
    let s = c.args.self.now in
    let t = c.loop.self in
    let u = c.turn.new.self in
    let d = g.D.Door.tale c.args.door.now in
    let d' = g.D.Door.tale c.loop.door in
    let d'' = g.D.Door.tale c.turn.new.door in
    let noted = g.J.Notes.noted c.turn.new.notes in
    let a = now s d.returned (g.J.Notes.noted c.args.notes.now) (g.C.Clock.tale c.args.clock.now) in
    let b = now t d'.returned (g.J.Notes.noted c.loop.notes) (g.C.Clock.tale c.loop.clock) in
    let w = now u d''.returned noted (g.C.Clock.tale c.turn.new.clock) in
    let went = c.loop.invariant.goes in
    record {
      ready = c.in_ok-some.ensures.ready;
      counts = counts_on s t u d d' d'' c.loop.invariant.counts c.in_ok-some.ensures.count;
      faults = c.in_ok-some.ensures.cause ∙ c.loop.invariant.faults;
      goes = subst (λ (clock : ClockTale). Went (AreAllTurns (guilds_of s.readers)) a (now u d''.returned noted clock)) (sym c.pause_unless.ensures)
          (turns_on (guilds_of s.readers) (guilds_of t.readers) a b w (guilds_after went.0 a b went.1.0) went c.in_ok-some.ensures.goes);
    }
