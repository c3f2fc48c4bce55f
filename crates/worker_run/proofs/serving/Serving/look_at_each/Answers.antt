use Rattle.std.proofs.Common.{◌∙◌, refl, arith}
use Rattle.std.proofs.lemmas.Result.{err_from_is_err_and}
use Rattle.guild_places.specs.Places.{guilds_of}
use Rattle.worker_run.specs.Moves.{AreLooks, AreFirstLooks, now}
use Rattle.worker_run.proofs.Readying.{counts_on, counts_same, stops_by, passed_on, fails_of, fails_on, fails_at, any_clock}
use Rattle.worker_run.proofs.Composing.{looks_on, looks_stopped, looks_none, looks_all, guilds_after, as_many, as_guilds, all_places}
use Rattle.worker_run.proofs.serving.Serving.look_at_each.Goals as goal

pub loop-place-init : goal.loop-place-init
loop-place-init g c =
    let s = c.args.self.now in
    let d = g.D.Door.tale c.args.door.now in
    record {
      ready = c.requires.ready;
      guilds = refl;
      counts = counts_same s s d d refl refl;
      faults = refl;
      goes = λ clock. looks_none (guilds_of s.readers) (now s d.returned (g.J.Notes.noted c.args.notes.now) clock) c.requires.ready.readers;
    }

pub look-requires : goal.look-requires
look-requires g c = record {
  place = as_many c.args.self.now.readers c.loop-place.self.readers c.loop-place.place c.loop-place.invariant.guilds (omega arith);
  ready = c.loop-place.invariant.ready;
}

pub loop-place-preserved : goal.loop-place-preserved
loop-place-preserved g c =
    let s = c.args.self.now in
    let t = c.loop-place.self in
    let u = c.look.new.self in
    let d = g.D.Door.tale c.args.door.now in
    let d' = g.D.Door.tale c.loop-place.door in
    let d'' = g.D.Door.tale c.look.new.door in
    let noted = g.J.Notes.noted c.args.notes.now in
    let noted' = g.J.Notes.noted c.loop-place.notes in
    let noted'' = g.J.Notes.noted c.look.new.notes in
    let one = c.in_ok-looked.ensures.goes any_clock in
    record {
      ready = c.in_ok-looked.ensures.ready;
      guilds = guilds_after one.0 (now t d'.returned noted' any_clock) (now u d''.returned noted'' any_clock) one.1.0 ∙ c.loop-place.invariant.guilds;
      counts = counts_on s t u d d' d'' c.loop-place.invariant.counts c.in_ok-looked.ensures.count;
      faults = c.in_ok-looked.ensures.cause ∙ c.loop-place.invariant.faults;
      goes = λ clock.
          looks_on (guilds_of s.readers) (guilds_of t.readers) c.loop-place.place (now s d.returned noted clock) (now t d'.returned noted' clock) (now u d''.returned noted'' clock)
          (as_guilds s.readers c.loop-place.place (omega arith)) c.loop-place.invariant.guilds (c.loop-place.invariant.goes clock) (c.in_ok-looked.ensures.goes clock);
    }

pub returns-in_err-looked : goal.returns-in_err-looked
returns-in_err-looked g c =
    let s = c.args.self.now in
    let t = c.loop-place.self in
    let u = c.look.new.self in
    let d = g.D.Door.tale c.args.door.now in
    let d' = g.D.Door.tale c.loop-place.door in
    let d'' = g.D.Door.tale c.look.new.door in
    let noted = g.J.Notes.noted c.args.notes.now in
    let noted' = g.J.Notes.noted c.loop-place.notes in
    let noted'' = g.J.Notes.noted c.look.new.notes in
    let n = g.D.Door.faults c.args.door.now in
    let n' = g.D.Door.faults c.loop-place.door in
    let n'' = g.D.Door.faults c.look.new.door in
    let r = c.from_residual.result in
    let e = err_from_is_err_and r c.from_residual.ensures.1 in
    let f = c.in_err-looked.field-0.0 in
    let is = passed_on r e.0 f e.1 e.2 in
    record {
      ready = c.in_err-looked.ensures.ready;
      count = counts_on s t u d d' d'' c.loop-place.invariant.counts c.in_err-looked.ensures.count;
      cause = fails_of n n'' f r is (fails_on n n' n'' f c.loop-place.invariant.faults (fails_at n' n'' f c.look.result c.in_err-looked.was c.look.ensures.cause));
      goes = λ clock.
          stops_by (AreLooks (guilds_of s.readers)) (AreFirstLooks (guilds_of s.readers)) r f (now s d.returned noted clock) (now u d''.returned noted'' clock) is
          (looks_stopped (guilds_of s.readers) (guilds_of t.readers) c.loop-place.place f (now s d.returned noted clock) (now t d'.returned noted' clock) (now u d''.returned noted'' clock)
          (as_guilds s.readers c.loop-place.place (omega arith)) c.loop-place.invariant.guilds (c.loop-place.invariant.goes clock) (c.in_err-looked.ensures.goes clock));
    }

pub returns : goal.returns
returns g c =
    let s = c.args.self.now in
    let t = c.loop-place.self in
    let d = g.D.Door.tale c.args.door.now in
    let d' = g.D.Door.tale c.loop-place.door in
    record {
      ready = c.loop-place.invariant.ready;
      count = c.loop-place.invariant.counts;
      cause = c.loop-place.invariant.faults;
      goes = λ clock.
          looks_all (guilds_of s.readers) c.loop-place.place (now s d.returned (g.J.Notes.noted c.args.notes.now) clock) (now t d'.returned (g.J.Notes.noted c.loop-place.notes) clock)
          (all_places s.readers c.hub_count-place-end.result c.loop-place.place c.hub_count-place-end.ensures c.loop-place-test.false) (c.loop-place.invariant.goes clock);
    }
