use Rattle.std.proofs.Common.{◌∙◌, List, ℕ, None, length, refl, sym, ap, subst, arith}
use Rattle.std.proofs.lemmas.Bool.{and_parts}
use Rattle.std.proofs.lemmas.Result.{err_from_is_err_and}
use Rattle.worker_run.specs.Histories.{inputs}
use Rattle.guild_places.specs.Places.{AreDistinct, guilds_of}
use Rattle.worker_run.specs.Moves.{AreLooks, AreFirstLooks, now}
use Rattle.worker_run.specs.Running.{Quietly}
use Rattle.worker_run.proofs.Composing.{guilds_after, as_many, as_guilds, all_places}
use Rattle.worker_run.proofs.LastTurns.{same_on, none_open, quiet_looks_none, quiet_looks_all, quiet_looks_on, quiet_looks_stopped}
use Rattle.guild_places.proofs.Guilds.{many}
use Rattle.worker_run.proofs.Readying.{stops_by, passed_on, fails_of, fails_at, any_clock}
use Rattle.worker_run.proofs.Sealing.{none_sealed, sealed_more, all_sealed}
use Rattle.worker_run.proofs.serving.Serving.look_quietly_at_each.Goals as goal

pub loop-place-init : goal.loop-place-init
loop-place-init g c =
    let s = c.args.self.now in
    record {
      readers = c.requires.readers;
      same = refl;
      guilds = refl;
      seals = λ e. none_sealed s.readers;
      goes = λ back clock. quiet_looks_none (guilds_of s.readers) (now s back (g.J.Notes.noted c.args.notes.now) clock) c.requires.readers;
    }

pub look_quietly-requires-clause-place : goal.look_quietly-requires-clause-place
look_quietly-requires-clause-place g c = as_many c.args.self.now.readers c.loop-place.self.readers c.loop-place.place c.loop-place.invariant.guilds (omega arith)

pub look_quietly-requires-clause-readers : goal.look_quietly-requires-clause-readers
look_quietly-requires-clause-readers g c = c.loop-place.invariant.readers

pub look_quietly-requires-clause-distinct : goal.look_quietly-requires-clause-distinct
look_quietly-requires-clause-distinct g c = subst (λ (gs : List ℕ). AreDistinct gs) (sym c.loop-place.invariant.guilds) c.requires.distinct

pub look_quietly-requires-clause-links : goal.look_quietly-requires-clause-links
look_quietly-requires-clause-links g c = none_open c.args.self.now c.loop-place.self c.loop-place.invariant.same c.requires.links

pub returns-in_err-looked-clause-same : goal.returns-in_err-looked-clause-same
returns-in_err-looked-clause-same g c = same_on c.args.self.now c.loop-place.self c.look_quietly.new.self c.loop-place.invariant.same c.in_err-looked.ensures.same

pub returns-in_err-looked-clause-goes : goal.returns-in_err-looked-clause-goes
returns-in_err-looked-clause-goes g c back clock =
    let s = c.args.self.now in
    let t = c.loop-place.self in
    let u = c.look_quietly.new.self in
    let before = g.J.Notes.noted c.args.notes.now in
    let mid = g.J.Notes.noted c.loop-place.notes in
    let after = g.J.Notes.noted c.look_quietly.new.notes in
    let gs = guilds_of s.readers in
    let r = c.from_residual.result in
    let e = err_from_is_err_and r c.from_residual.ensures.1 in
    let f = c.in_err-looked.field-0.0 in
    stops_by (Quietly (AreLooks gs)) (Quietly (AreFirstLooks gs)) r f (now s back before clock) (now u back after clock) (passed_on r e.0 f e.1 e.2)
    (quiet_looks_stopped gs (guilds_of t.readers) c.loop-place.place (as_guilds s.readers c.loop-place.place (omega arith)) c.loop-place.invariant.guilds
    (now s back before clock) (now t back mid clock) (now u back after clock) (c.loop-place.invariant.goes back clock) f (c.in_err-looked.ensures.goes back clock))

pub loop-place-preserved : goal.loop-place-preserved
loop-place-preserved g c =
    let s = c.args.self.now in
    let t = c.loop-place.self in
    let u = c.look_quietly.new.self in
    let before = g.J.Notes.noted c.args.notes.now in
    let mid = g.J.Notes.noted c.loop-place.notes in
    let after = g.J.Notes.noted c.look_quietly.new.notes in
    let gs = guilds_of s.readers in
    let one = c.in_ok-looked.ensures.goes None any_clock in
    record {
      readers = c.in_ok-looked.ensures.readers;
      same = same_on s t u c.loop-place.invariant.same c.in_ok-looked.ensures.same;
      guilds = guilds_after one.0 (now t None mid any_clock) (now u None after any_clock) one.1.0 ∙ c.loop-place.invariant.guilds;
      seals = λ e.
          let both = and_parts c.loop-place.sealed c.in_ok-looked.looked.sealed e in
          sealed_more (inputs one.0) t.readers u.readers c.loop-place.place one.1.0.outside.readers (c.loop-place.invariant.seals both.0) (c.in_ok-looked.ensures.sealed both.1);
      goes = λ back clock.
          quiet_looks_on gs (guilds_of t.readers) c.loop-place.place (as_guilds s.readers c.loop-place.place (omega arith)) c.loop-place.invariant.guilds
          (now s back before clock) (now t back mid clock) (now u back after clock) (c.loop-place.invariant.goes back clock) (c.in_ok-looked.ensures.goes back clock);
    }

pub returns-clause-readers : goal.returns-clause-readers
returns-clause-readers g c = c.loop-place.invariant.readers

pub returns-clause-same : goal.returns-clause-same
returns-clause-same g c = c.loop-place.invariant.same

pub returns-clause-sealed : goal.returns-clause-sealed
returns-clause-sealed g c e = all_sealed c.loop-place.self.readers c.loop-place.place (omega (arith, c.hub_count-place-end.ensures, c.loop-place-test.false, many c.args.self.now.readers, many c.loop-place.self.readers, ap (λ (gs : List ℕ). length gs) c.loop-place.invariant.guilds)) (c.loop-place.invariant.seals e)

pub returns-clause-goes : goal.returns-clause-goes
returns-clause-goes g c back clock =
    let s = c.args.self.now in
    quiet_looks_all (guilds_of s.readers) c.loop-place.place (now s back (g.J.Notes.noted c.args.notes.now) clock) (now c.loop-place.self back (g.J.Notes.noted c.loop-place.notes) clock)
    (all_places s.readers c.hub_count-place-end.result c.loop-place.place c.hub_count-place-end.ensures c.loop-place-test.false) (c.loop-place.invariant.goes back clock)

pub returns-in_err-looked-clause-cause : goal.returns-in_err-looked-clause-cause
returns-in_err-looked-clause-cause g c faults =
    let r = c.from_residual.result in
    let e = err_from_is_err_and r c.from_residual.ensures.1 in
    let f = c.in_err-looked.field-0.0 in
    fails_of faults faults f r (passed_on r e.0 f e.1 e.2) (fails_at faults faults f c.look_quietly.result c.in_err-looked.was (c.look_quietly.ensures.cause faults))
