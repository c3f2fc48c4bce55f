use Rattle.std.proofs.Common.{◌∙◌, ◌∷◌, ℕ, Option, None, refl, subst}
use Rattle.std.proofs.lemmas.Result.{err_from_is_err_and}
use Rattle.world_law.specs.Inputs.{Open}
use Rattle.worker_run.specs.Faults.{by_door}
use Rattle.worker_run.specs.Histories.{Took}
use Rattle.worker_run.specs.Moves.{OpensOne, now}
use Rattle.worker_run.specs.Parts.{LetsIn}
use Rattle.worker_run.proofs.Readying.{counts_on, counts_same, stops_by, passed_on, fails_of, fails_on, no_door, door_fails, any_clock}
use Rattle.worker_run.proofs.Asking.{let_ready, opens_none, opens_fails, opens_goes, opens_stops}
use Rattle.worker_run.proofs.serving.Serving.let_in.Goals as goal

pub let_next-requires : goal.let_next-requires
let_next-requires g c = record { within = c.requires.ready.within; ended = c.requires.ready.ended }

pub returns-in_err-conn : goal.returns-in_err-conn
returns-in_err-conn g c =
    let s = c.args.self.now in
    let t = c.let_next.new.self in
    let d = g.D.Door.tale c.args.door.now in
    let d' = g.D.Door.tale c.let_next.new.door in
    let n = g.D.Door.faults c.args.door.now in
    let n' = g.D.Door.faults c.let_next.new.door in
    let noted = g.J.Notes.noted c.args.notes.now in
    let r = c.from_residual.result in
    let e = err_from_is_err_and r c.from_residual.ensures.1 in
    let f = c.in_err-conn.field-0.0 in
    let is = passed_on r e.0 (by_door f) e.1 e.2 in
    let lets = c.in_err-conn.ensures.err in
    record {
      ready = let_ready None s t d d' lets c.args.posts.now c.requires.ready;
      count = lets.counts;
      cause = fails_of n n' (by_door f) r is (door_fails c.let_next.result f n n' c.in_err-conn.was c.let_next.ensures.cause);
      goes = λ clock. stops_by OpensOne OpensOne r (by_door f) (now s d.returned noted clock) (now t d'.returned noted clock) is (opens_fails s t d d' noted clock c.requires.ready.readers lets f);
    }

pub returns-in-None : goal.returns-in-None
returns-in-None g c =
    let s = c.args.self.now in
    let t = c.let_next.new.self in
    let d = g.D.Door.tale c.args.door.now in
    let d' = g.D.Door.tale c.let_next.new.door in
    let lets = subst (λ (o : Option ℕ). LetsIn o s t d d') c.in-None.is c.in_ok-conn.ensures.ok in
    record {
      ready = let_ready None s t d d' lets c.args.posts.now c.requires.ready;
      count = lets.counts;
      cause = c.in_ok-conn.ensures.cause.ok;
      goes = λ clock. opens_none s t d d' (g.J.Notes.noted c.args.notes.now) clock c.requires.ready.readers lets;
    }

pub handle-requires : goal.handle-requires
handle-requires g c =
    let s = c.args.self.now in
    let t = c.let_next.new.self in
    let d = g.D.Door.tale c.args.door.now in
    let d' = g.D.Door.tale c.let_next.new.door in
    record { ready = let_ready _ s t d d' c.in_ok-conn.ensures.ok c.args.posts.now c.requires.ready }

pub returns-in_err-handle-in-Some : goal.returns-in_err-handle-in-Some
returns-in_err-handle-in-Some g c =
    let s = c.args.self.now in
    let t = c.let_next.new.self in
    let u = c.handle.new.self in
    let d = g.D.Door.tale c.args.door.now in
    let d' = g.D.Door.tale c.let_next.new.door in
    let d'' = g.D.Door.tale c.handle.new.door in
    let n = g.D.Door.faults c.args.door.now in
    let n' = g.D.Door.faults c.let_next.new.door in
    let n'' = g.D.Door.faults c.handle.new.door in
    let noted = g.J.Notes.noted c.args.notes.now in
    let noted' = g.J.Notes.noted c.handle.new.notes in
    let conn = c.in-Some.conn in
    let lets = subst (λ (o : Option ℕ). LetsIn o s t d d') c.in-Some.is c.in_ok-conn.ensures.ok in
    let r = c.from_residual-in_err-handle-in-Some.result in
    let e = err_from_is_err_and r c.from_residual-in_err-handle-in-Some.ensures.1 in
    let f = c.in_err-handle-in-Some.field-0.0 in
    let is = passed_on r e.0 f e.1 e.2 in
    let not = c.in_err-handle-in-Some.ensures.handles (Open conn) any_clock refl in
    record {
      ready = c.in_err-handle-in-Some.ensures.ready;
      count = counts_on s t u d d' d'' lets.counts (counts_same t u d' d'' not.1.outside.count c.in_err-handle-in-Some.ensures.door.given);
      cause = fails_of n n'' f r is (fails_on n n' n'' f c.in_ok-conn.ensures.cause.ok (no_door (Took (Open conn) ∷ not.0) t.worker u.passes f n' n'' not.1.why c.in_err-handle-in-Some.ensures.faults));
      goes = λ clock.
          let does = c.in_err-handle-in-Some.ensures.handles (Open conn) clock refl in
          stops_by OpensOne OpensOne r f (now s d.returned noted clock) (now u d''.returned noted' clock) is
          (opens_stops s t d d' noted clock c.requires.ready.readers conn lets (now u d''.returned noted' clock) f does.0 does.1);
    }

pub returns-in_ok-handle-in-Some : goal.returns-in_ok-handle-in-Some
returns-in_ok-handle-in-Some g c =
    let s = c.args.self.now in
    let t = c.let_next.new.self in
    let u = c.handle.new.self in
    let d = g.D.Door.tale c.args.door.now in
    let d' = g.D.Door.tale c.let_next.new.door in
    let d'' = g.D.Door.tale c.handle.new.door in
    let noted = g.J.Notes.noted c.args.notes.now in
    let noted' = g.J.Notes.noted c.handle.new.notes in
    let conn = c.in-Some.conn in
    let lets = subst (λ (o : Option ℕ). LetsIn o s t d d') c.in-Some.is c.in_ok-conn.ensures.ok in
    let done = c.in_ok-handle-in-Some.ensures.handles (Open conn) any_clock refl in
    record {
      ready = c.in_ok-handle-in-Some.ensures.ready;
      count = counts_on s t u d d' d'' lets.counts (counts_same t u d' d'' done.1.outside.count c.in_ok-handle-in-Some.ensures.door.given);
      cause = c.in_ok-handle-in-Some.ensures.faults ∙ c.in_ok-conn.ensures.cause.ok;
      goes = λ clock.
          let does = c.in_ok-handle-in-Some.ensures.handles (Open conn) clock refl in
          opens_goes s t d d' noted clock c.requires.ready.readers conn lets (now u d''.returned noted' clock) does.0 does.1;
    }
