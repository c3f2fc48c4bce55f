use Rattle.std.proofs.Common.{◌∙◌}
use Rattle.std.proofs.lemmas.Result.{err_from_is_err_and}
use Rattle.guild_places.specs.Places.{guilds_of}
use Rattle.worker_run.specs.Moves.{IsOneTurn, IsOneTurnCut, now}
use Rattle.worker_run.proofs.Readying.{counts_on, stops_by, passed_on, fails_of, fails_on, fails_at}
use Rattle.worker_run.proofs.Composing.{stopped_looks, stopped_tick, stopped_opens, stopped_heard, went_whole}
use Rattle.worker_run.proofs.serving.Serving.turn.Goals as goal

pub returns-in_err-looked : goal.returns-in_err-looked
returns-in_err-looked g c =
    let gs = guilds_of c.args.self.now.readers in
    let n = g.D.Door.faults c.args.door.now in
    let n1 = g.D.Door.faults c.look_at_each.new.door in
    let clock = g.C.Clock.tale c.args.clock.now in
    let a = now c.args.self.now (g.D.Door.tale c.args.door.now).returned (g.J.Notes.noted c.args.notes.now) clock in
    let b = now c.look_at_each.new.self (g.D.Door.tale c.look_at_each.new.door).returned (g.J.Notes.noted c.look_at_each.new.notes) clock in
    let r = c.from_residual.result in
    let e = err_from_is_err_and r c.from_residual.ensures.1 in
    let f = c.in_err-looked.field-0.0 in
    let is = passed_on r e.0 f e.1 e.2 in
    record {
      ready = c.in_err-looked.ensures.ready;
      count = c.in_err-looked.ensures.count;
      cause = fails_of n n1 f r is (fails_at n n1 f c.look_at_each.result c.in_err-looked.was c.look_at_each.ensures.cause);
      goes = stops_by (IsOneTurn gs) (IsOneTurnCut gs) r f a b is (stopped_looks gs a b f (c.in_err-looked.ensures.goes clock));
    }

pub returns-in_err-tick : goal.returns-in_err-tick
returns-in_err-tick g c =
    let s = c.args.self.now in
    let s1 = c.look_at_each.new.self in
    let s2 = c.tick.new.self in
    let d = g.D.Door.tale c.args.door.now in
    let d1 = g.D.Door.tale c.look_at_each.new.door in
    let d2 = g.D.Door.tale c.tick.new.door in
    let gs = guilds_of s.readers in
    let n = g.D.Door.faults c.args.door.now in
    let n1 = g.D.Door.faults c.look_at_each.new.door in
    let n2 = g.D.Door.faults c.tick.new.door in
    let clock = g.C.Clock.tale c.args.clock.now in
    let later = g.C.Clock.tale c.tick.new.clock in
    let a = now s d.returned (g.J.Notes.noted c.args.notes.now) clock in
    let b = now s1 d1.returned (g.J.Notes.noted c.look_at_each.new.notes) clock in
    let e2 = now s2 d2.returned (g.J.Notes.noted c.tick.new.notes) later in
    let r = c.from_residual-in_err-tick.result in
    let e = err_from_is_err_and r c.from_residual-in_err-tick.ensures.1 in
    let f = c.in_err-tick.field-0.0 in
    let is = passed_on r e.0 f e.1 e.2 in
    record {
      ready = c.in_err-tick.ensures.ready;
      count = counts_on s s1 s2 d d1 d2 c.in_ok-looked.ensures.count c.in_err-tick.ensures.count;
      cause = fails_of n n2 f r is (fails_on n n1 n2 f c.in_ok-looked.ensures.cause (fails_at n1 n2 f c.tick.result c.in_err-tick.was c.tick.ensures.cause));
      goes = stops_by (IsOneTurn gs) (IsOneTurnCut gs) r f a e2 is (stopped_tick gs a b (c.in_ok-looked.ensures.goes clock) e2 f c.in_err-tick.ensures.goes);
    }

pub returns-in_err-opened : goal.returns-in_err-opened
returns-in_err-opened g c =
    let s = c.args.self.now in
    let s1 = c.look_at_each.new.self in
    let s2 = c.tick.new.self in
    let s3 = c.let_in.new.self in
    let d = g.D.Door.tale c.args.door.now in
    let d1 = g.D.Door.tale c.look_at_each.new.door in
    let d2 = g.D.Door.tale c.tick.new.door in
    let d3 = g.D.Door.tale c.let_in.new.door in
    let gs = guilds_of s.readers in
    let n = g.D.Door.faults c.args.door.now in
    let n1 = g.D.Door.faults c.look_at_each.new.door in
    let n2 = g.D.Door.faults c.tick.new.door in
    let n3 = g.D.Door.faults c.let_in.new.door in
    let clock = g.C.Clock.tale c.args.clock.now in
    let later = g.C.Clock.tale c.tick.new.clock in
    let a = now s d.returned (g.J.Notes.noted c.args.notes.now) clock in
    let b = now s1 d1.returned (g.J.Notes.noted c.look_at_each.new.notes) clock in
    let e2 = now s2 d2.returned (g.J.Notes.noted c.tick.new.notes) later in
    let e3 = now s3 d3.returned (g.J.Notes.noted c.let_in.new.notes) later in
    let r = c.from_residual-in_err-opened.result in
    let e = err_from_is_err_and r c.from_residual-in_err-opened.ensures.1 in
    let f = c.in_err-opened.field-0.0 in
    let is = passed_on r e.0 f e.1 e.2 in
    record {
      ready = c.in_err-opened.ensures.ready;
      count = counts_on s s2 s3 d d2 d3 (counts_on s s1 s2 d d1 d2 c.in_ok-looked.ensures.count c.in_ok-tick.ensures.count) c.in_err-opened.ensures.count;
      cause = fails_of n n3 f r is (fails_on n n2 n3 f (c.in_ok-tick.ensures.cause ∙ c.in_ok-looked.ensures.cause) (fails_at n2 n3 f c.let_in.result c.in_err-opened.was c.let_in.ensures.cause));
      goes = stops_by (IsOneTurn gs) (IsOneTurnCut gs) r f a e3 is (stopped_opens gs a b (c.in_ok-looked.ensures.goes clock) e2 c.in_ok-tick.ensures.goes e3 f (c.in_err-opened.ensures.goes later));
    }

pub returns-in_err-heard : goal.returns-in_err-heard
returns-in_err-heard g c =
    let s = c.args.self.now in
    let s1 = c.look_at_each.new.self in
    let s2 = c.tick.new.self in
    let s3 = c.let_in.new.self in
    let s4 = c.hear_each.new.self in
    let d = g.D.Door.tale c.args.door.now in
    let d1 = g.D.Door.tale c.look_at_each.new.door in
    let d2 = g.D.Door.tale c.tick.new.door in
    let d3 = g.D.Door.tale c.let_in.new.door in
    let d4 = g.D.Door.tale c.hear_each.new.door in
    let gs = guilds_of s.readers in
    let n = g.D.Door.faults c.args.door.now in
    let n3 = g.D.Door.faults c.let_in.new.door in
    let n4 = g.D.Door.faults c.hear_each.new.door in
    let clock = g.C.Clock.tale c.args.clock.now in
    let later = g.C.Clock.tale c.tick.new.clock in
    let a = now s d.returned (g.J.Notes.noted c.args.notes.now) clock in
    let b = now s1 d1.returned (g.J.Notes.noted c.look_at_each.new.notes) clock in
    let e2 = now s2 d2.returned (g.J.Notes.noted c.tick.new.notes) later in
    let e3 = now s3 d3.returned (g.J.Notes.noted c.let_in.new.notes) later in
    let e4 = now s4 d4.returned (g.J.Notes.noted c.hear_each.new.notes) later in
    let r = c.from_residual-in_err-heard.result in
    let e = err_from_is_err_and r c.from_residual-in_err-heard.ensures.1 in
    let f = c.in_err-heard.field-0.0 in
    let is = passed_on r e.0 f e.1 e.2 in
    record {
      ready = c.in_err-heard.ensures.ready;
      count = counts_on s s3 s4 d d3 d4 (counts_on s s2 s3 d d2 d3 (counts_on s s1 s2 d d1 d2 c.in_ok-looked.ensures.count c.in_ok-tick.ensures.count) c.in_ok-opened.ensures.count) c.in_err-heard.ensures.count;
      cause = fails_of n n4 f r is (fails_on n n3 n4 f (c.in_ok-opened.ensures.cause ∙ (c.in_ok-tick.ensures.cause ∙ c.in_ok-looked.ensures.cause)) (fails_at n3 n4 f c.hear_each.result c.in_err-heard.was c.hear_each.ensures.cause));
      goes = stops_by (IsOneTurn gs) (IsOneTurnCut gs) r f a e4 is (stopped_heard gs a b (c.in_ok-looked.ensures.goes clock) e2 c.in_ok-tick.ensures.goes e3 (c.in_ok-opened.ensures.goes later) e4 f (c.in_err-heard.ensures.goes later));
    }

pub returns : goal.returns
returns g c =
    let s = c.args.self.now in
    let s1 = c.look_at_each.new.self in
    let s2 = c.tick.new.self in
    let s3 = c.let_in.new.self in
    let s4 = c.hear_each.new.self in
    let d = g.D.Door.tale c.args.door.now in
    let d1 = g.D.Door.tale c.look_at_each.new.door in
    let d2 = g.D.Door.tale c.tick.new.door in
    let d3 = g.D.Door.tale c.let_in.new.door in
    let d4 = g.D.Door.tale c.hear_each.new.door in
    let clock = g.C.Clock.tale c.args.clock.now in
    let later = g.C.Clock.tale c.tick.new.clock in
    let a = now s d.returned (g.J.Notes.noted c.args.notes.now) clock in
    let b = now s1 d1.returned (g.J.Notes.noted c.look_at_each.new.notes) clock in
    let e2 = now s2 d2.returned (g.J.Notes.noted c.tick.new.notes) later in
    let e3 = now s3 d3.returned (g.J.Notes.noted c.let_in.new.notes) later in
    let e4 = now s4 d4.returned (g.J.Notes.noted c.hear_each.new.notes) later in
    record {
      ready = c.in_ok-heard.ensures.ready;
      count = counts_on s s3 s4 d d3 d4 (counts_on s s2 s3 d d2 d3 (counts_on s s1 s2 d d1 d2 c.in_ok-looked.ensures.count c.in_ok-tick.ensures.count) c.in_ok-opened.ensures.count) c.in_ok-heard.ensures.count;
      cause = c.in_ok-heard.ensures.cause ∙ (c.in_ok-opened.ensures.cause ∙ (c.in_ok-tick.ensures.cause ∙ c.in_ok-looked.ensures.cause));
      goes = went_whole (guilds_of s.readers) a b (c.in_ok-looked.ensures.goes clock) e2 c.in_ok-tick.ensures.goes e3 (c.in_ok-opened.ensures.goes later) e4 (c.in_ok-heard.ensures.goes later);
    }
