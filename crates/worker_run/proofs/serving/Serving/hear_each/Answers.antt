use Rattle.std.proofs.Common.{◌∙◌, Option, refl, ap, subst, arith}
use Rattle.std.proofs.lemmas.Result.{err_from_is_err_and}
use Rattle.open_links.specs.declared.heard.Heard.{Heard}
use Rattle.open_links.specs.Links.{Holding}
use Rattle.open_links.specs.Calls.{HearsFrom}
use Rattle.worker_run.specs.Moves.{Now, IsHeard, AreHeard, now}
use Rattle.worker_run.specs.declared.fault.WorkFault.TheVariants as fault
use Rattle.open_links.proofs.Composing.{same_door, same_doors}
use Rattle.worker_run.proofs.Readying.{ready_asked, counts_same, stops_by, passed_on, fails_of, fails_on, fails_at}
use Rattle.worker_run.proofs.Turning.{goes_still}
use Rattle.worker_run.proofs.Composing.{Went, Stopped, heard_init, heard_on, heard_stopped, heard_halted, heard_last, heard_all}
use Rattle.worker_run.proofs.Asking.{asked_none, asked_before, moves_none}
use Rattle.worker_run.proofs.serving.Serving.hear_each.Goals as goal

pub loop-from-init : goal.loop-from-init
loop-from-init g c =
    let s = c.args.self.now in
    let d = g.D.Door.tale c.args.door.now in
    record {
      ready = c.requires.ready;
      door = same_door d;
      count = refl;
      limit = c.link_count-count.ensures;
      faults = refl;
      goes = λ clock. heard_init (now s d.returned (g.J.Notes.noted c.args.notes.now) clock) c.requires.ready.readers;
    }

pub returns-in_err-heard : goal.returns-in_err-heard
returns-in_err-heard g c =
    let s = c.args.self.now in
    let t = c.loop-from.self in
    let u = c.ask_from.new.self in
    let d = g.D.Door.tale c.args.door.now in
    let d' = g.D.Door.tale c.loop-from.door in
    let n = g.D.Door.faults c.args.door.now in
    let n' = g.D.Door.faults c.loop-from.door in
    let noted = g.J.Notes.noted c.args.notes.now in
    let noted' = g.J.Notes.noted c.loop-from.notes in
    let r = c.from_residual.result in
    let e = err_from_is_err_and r c.from_residual.ensures.1 in
    let is = passed_on r e.0 fault.Memory e.1 e.2 in
    let same = c.in_err-heard.ensures.same in
    let not = c.in_err-heard.ensures.err in
    record {
      ready = ready_asked c.args.posts.now t u d' same not.0 c.loop-from.invariant.ready;
      count = counts_same s u d d' (not.0 ∙ c.loop-from.invariant.count) c.loop-from.invariant.door.given;
      cause = fails_of n n' fault.Memory r is c.loop-from.invariant.faults;
      goes = λ clock.
          stops_by AreHeard AreHeard r fault.Memory (now s d.returned noted clock) (now u d'.returned noted' clock) is
          (heard_halted c.loop-from.from (now s d.returned noted clock) (now t d'.returned noted' clock) (now u d'.returned noted' clock) (c.loop-from.invariant.goes clock)
          (goes_still (now t d'.returned noted' clock) (now u d'.returned noted' clock) (asked_none t u same d'.returned noted' clock not.1 c.loop-from.invariant.ready.readers)));
    }

-- no link is left to ask
pub returns-in_default : goal.returns-in_default
returns-in_default g c =
    let s = c.args.self.now in
    let t = c.loop-from.self in
    let u = c.ask_from.new.self in
    let d = g.D.Door.tale c.args.door.now in
    let d' = g.D.Door.tale c.loop-from.door in
    let noted = g.J.Notes.noted c.args.notes.now in
    let noted' = g.J.Notes.noted c.loop-from.notes in
    let same = c.in_ok-heard.ensures.same in
    let none = subst (λ (o : Option Heard). HearsFrom c.loop-from.from o t.links u.links) c.in_default.is c.in_ok-heard.ensures.ok in
    let count = ap (λ (o : Holding). o.count) none.0 in
    record {
      ready = ready_asked c.args.posts.now t u d' same count c.loop-from.invariant.ready;
      count = counts_same s u d d' (count ∙ c.loop-from.invariant.count) c.loop-from.invariant.door.given;
      cause = c.loop-from.invariant.faults;
      goes = λ clock.
          heard_last c.loop-from.from (now s d.returned noted clock) (now t d'.returned noted' clock) (now u d'.returned noted' clock) (c.loop-from.invariant.goes clock)
          (goes_still (now t d'.returned noted' clock) (now u d'.returned noted' clock) (asked_none t u same d'.returned noted' clock (moves_none t.links u.links none.0) c.loop-from.invariant.ready.readers));
    }

pub hear-requires : goal.hear-requires
hear-requires g c =
    let t = c.loop-from.self in
    let u = c.ask_from.new.self in
    let hears = subst (λ (o : Option Heard). HearsFrom c.loop-from.from o t.links u.links) c.in-Some.is c.in_ok-heard.ensures.ok in
    record { ready = ready_asked c.args.posts.now t u (g.D.Door.tale c.loop-from.door) c.in_ok-heard.ensures.same hears.count c.loop-from.invariant.ready }

pub overflow_add-from : goal.overflow_add-from
overflow_add-from g c =
    let hears = subst (λ (o : Option Heard). HearsFrom c.loop-from.from o c.loop-from.self.links c.ask_from.new.self.links) c.in-Some.is c.in_ok-heard.ensures.ok in
    omega (arith, hears.below, c.loop-from.invariant.limit, c.loop-from.invariant.count)

pub loop-from-preserved : goal.loop-from-preserved
loop-from-preserved g c =
    let s = c.args.self.now in
    let t = c.loop-from.self in
    let u = c.ask_from.new.self in
    let v = c.hear.new.self in
    let d = g.D.Door.tale c.args.door.now in
    let d' = g.D.Door.tale c.loop-from.door in
    let d'' = g.D.Door.tale c.hear.new.door in
    let noted = g.J.Notes.noted c.args.notes.now in
    let noted' = g.J.Notes.noted c.loop-from.notes in
    let noted'' = g.J.Notes.noted c.hear.new.notes in
    let heard = c.in-Some.heard in
    let same = c.in_ok-heard.ensures.same in
    let hears = subst (λ (o : Option Heard). HearsFrom c.loop-from.from o t.links u.links) c.in-Some.is c.in_ok-heard.ensures.ok in
    record {
      ready = c.in_ok-came.ensures.ready;
      door = same_doors d d' d'' c.loop-from.invariant.door c.in_ok-came.ensures.door;
      count = c.in_ok-came.ensures.count ∙ (hears.count ∙ c.loop-from.invariant.count);
      limit = c.loop-from.invariant.limit;
      faults = c.in_ok-came.ensures.cause ∙ c.loop-from.invariant.faults;
      goes = λ clock.
          heard_on c.loop-from.from heard.conn (now s d.returned noted clock) (now t d'.returned noted' clock) (now v d''.returned noted'' clock) hears.least (c.loop-from.invariant.goes clock)
          (subst (λ (a : Now). Went (IsHeard heard.conn) a (now v d''.returned noted'' clock)) (asked_before t u same d'.returned noted' clock) (c.in_ok-came.ensures.goes clock t.links hears.says));
    }

pub returns-in_err-came : goal.returns-in_err-came
returns-in_err-came g c =
    let s = c.args.self.now in
    let t = c.loop-from.self in
    let u = c.ask_from.new.self in
    let v = c.hear.new.self in
    let d = g.D.Door.tale c.args.door.now in
    let d' = g.D.Door.tale c.loop-from.door in
    let d'' = g.D.Door.tale c.hear.new.door in
    let n = g.D.Door.faults c.args.door.now in
    let n' = g.D.Door.faults c.loop-from.door in
    let n'' = g.D.Door.faults c.hear.new.door in
    let noted = g.J.Notes.noted c.args.notes.now in
    let noted' = g.J.Notes.noted c.loop-from.notes in
    let noted'' = g.J.Notes.noted c.hear.new.notes in
    let heard = c.in-Some.heard in
    let same = c.in_ok-heard.ensures.same in
    let hears = subst (λ (o : Option Heard). HearsFrom c.loop-from.from o t.links u.links) c.in-Some.is c.in_ok-heard.ensures.ok in
    let r = c.from_residual-in_err-came.result in
    let e = err_from_is_err_and r c.from_residual-in_err-came.ensures.1 in
    let f = c.in_err-came.field-0.0 in
    let is = passed_on r e.0 f e.1 e.2 in
    let door = same_doors d d' d'' c.loop-from.invariant.door c.in_err-came.ensures.door in
    record {
      ready = c.in_err-came.ensures.ready;
      count = counts_same s v d d'' (c.in_err-came.ensures.count ∙ (hears.count ∙ c.loop-from.invariant.count)) door.given;
      cause = fails_of n n'' f r is (fails_on n n' n'' f c.loop-from.invariant.faults (fails_at n' n'' f c.hear.result c.in_err-came.was c.hear.ensures.cause));
      goes = λ clock.
          stops_by AreHeard AreHeard r f (now s d.returned noted clock) (now v d''.returned noted'' clock) is
          (heard_stopped c.loop-from.from heard.conn f (now s d.returned noted clock) (now t d'.returned noted' clock) (now v d''.returned noted'' clock) hears.least (c.loop-from.invariant.goes clock)
          (subst (λ (a : Now). Stopped (IsHeard heard.conn) f a (now v d''.returned noted'' clock)) (asked_before t u same d'.returned noted' clock) (c.in_err-came.ensures.goes clock t.links hears.says)));
    }

pub returns : goal.returns
returns g c =
    let s = c.args.self.now in
    let t = c.loop-from.self in
    let d = g.D.Door.tale c.args.door.now in
    let d' = g.D.Door.tale c.loop-from.door in
    record {
      ready = c.loop-from.invariant.ready;
      count = counts_same s t d d' c.loop-from.invariant.count c.loop-from.invariant.door.given;
      cause = c.loop-from.invariant.faults;
      goes = λ clock.
          heard_all c.loop-from.from (now s d.returned (g.J.Notes.noted c.args.notes.now) clock) (now t d'.returned (g.J.Notes.noted c.loop-from.notes) clock) (c.loop-from.invariant.goes clock);
    }
