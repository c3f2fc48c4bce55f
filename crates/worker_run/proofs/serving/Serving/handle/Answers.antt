-- The worker takes an input, its outputs go out, and connections are lost.
use Rattle.std.proofs.Common.{List, [], ◌++◌, Option, sym, subst}
use Rattle.std.proofs.lemmas.Result.{MatchResult-weaker, err_from_is_err_and}
use Rattle.gate_outside.specs.Links.{ReturnedLink}
use Rattle.worker_core.specs.declared.io.Input.{Input as Given}
use Rattle.worker_core.specs.declared.io.Output.{Output as Written}
use Rattle.worker_run.specs.Histories.{given_out}
use Rattle.worker_run.specs.Moves.{Serving, HandlesNot, now}
use Rattle.worker_run.specs.declared.fault.WorkFault.{WorkFault}
use Rattle.open_links.proofs.Composing.{same_door, same_doors}
use Rattle.worker_run.proofs.Moves.{ready_taken, handles_not_taken, handles_not_given, handles_by, handles_not_lost, loses_none}
use Rattle.worker_run.proofs.serving.Serving.handle.Goals as goal

pub give_all-requires : goal.give_all-requires
give_all-requires g c = record {
  ready = ready_taken c.args.posts.now c.args.self.now c.take.new.self (g.D.Door.tale c.args.door.now) c.in_ok-outputs.ensures.same c.requires.ready;
}

pub returns-in_err-outputs-clause-ready : goal.returns-in_err-outputs-clause-ready
returns-in_err-outputs-clause-ready g c =
    ready_taken c.args.posts.now c.args.self.now c.take.new.self (g.D.Door.tale c.args.door.now) c.in_err-outputs.ensures.same c.requires.ready

pub returns-in_err-outputs-clause-door : goal.returns-in_err-outputs-clause-door
returns-in_err-outputs-clause-door g c = same_door (g.D.Door.tale c.args.door.now)

pub returns-in_err-outputs-clause-handles : goal.returns-in_err-outputs-clause-handles
returns-in_err-outputs-clause-handles g c i clock given =
    let s0 : Serving = c.args.self.now in
    let s1 : Serving = c.take.new.self in
    let x : Option (List ReturnedLink) = (g.D.Door.tale c.args.door.now).returned in
    let m : Option (List Given) = g.J.Notes.noted c.args.notes.now in
    let n : Option (List Given) = g.J.Notes.noted c.take.new.notes in
    let p = err_from_is_err_and c.from_residual.result c.from_residual.ensures.1 in
    rw p.1 (
      [],
      subst (λ (f : WorkFault). HandlesNot i [] f (now s0 x m clock) (now s1 x n clock)) (sym p.2)
          (handles_not_taken i clock s0 s1 x m n c.in_err-outputs.ensures.same c.in_err-outputs.field-0.0 (c.in_err-outputs.ensures.takes i given)),
    )

pub returns-in_err-give_all-clause-handles : goal.returns-in_err-give_all-clause-handles
returns-in_err-give_all-clause-handles g c i clock given =
    let s0 : Serving = c.args.self.now in
    let s1 : Serving = c.take.new.self in
    let s2 : Serving = c.give_all.new.self in
    let x : Option (List ReturnedLink) = (g.D.Door.tale c.args.door.now).returned in
    let y : Option (List ReturnedLink) = (g.D.Door.tale c.give_all.new.door).returned in
    let m : Option (List Given) = g.J.Notes.noted c.args.notes.now in
    let n : Option (List Given) = g.J.Notes.noted c.take.new.notes in
    let out : List Written = c.in_ok-outputs.outputs.items in
    let took = c.in_ok-outputs.ensures.takes i given in
    let front = c.in_err-give_all.ensures.gives in
    let p = err_from_is_err_and c.from_residual-in_err-give_all.result c.from_residual-in_err-give_all.ensures.1 in
    rw p.1 (
      given_out front.front,
      subst (λ (f : WorkFault). HandlesNot i (given_out front.front) f (now s0 x m clock) (now s2 y n clock)) (sym p.2)
          (handles_not_given i clock s0 s1 x m n c.in_ok-outputs.ensures.same s2 y out took.0 took.1 c.in_err-give_all.field-0.0 front),
    )

-- nothing went out, and no link is looked at
pub returns-then-silent-clause-door : goal.returns-then-silent-clause-door
returns-then-silent-clause-door g c = c.in_ok-give_all.ensures.door

pub returns-then-silent-clause-handles : goal.returns-then-silent-clause-handles
returns-then-silent-clause-handles g c i clock given =
    let s0 : Serving = c.args.self.now in
    let s1 : Serving = c.take.new.self in
    let s2 : Serving = c.give_all.new.self in
    let x : Option (List ReturnedLink) = (g.D.Door.tale c.args.door.now).returned in
    let y : Option (List ReturnedLink) = (g.D.Door.tale c.give_all.new.door).returned in
    let m : Option (List Given) = g.J.Notes.noted c.args.notes.now in
    let n : Option (List Given) = g.J.Notes.noted c.take.new.notes in
    let out : List Written = c.in_ok-outputs.outputs.items in
    let took = c.in_ok-outputs.ensures.takes i given in
    (given_out out ++ [], handles_by i clock s0 s1 x m n c.in_ok-outputs.ensures.same s2 y out took.0 took.1 c.in_ok-give_all.ensures.gives [] s2 y n (loses_none (now s2 y n clock)))

pub returns-clause-door : goal.returns-clause-door
returns-clause-door g c =
    same_doors (g.D.Door.tale c.args.door.now) (g.D.Door.tale c.give_all.new.door) (g.D.Door.tale c.lose_failed.new.door) c.in_ok-give_all.ensures.door c.lose_failed.ensures.door

pub returns-clause-handles : goal.returns-clause-handles
returns-clause-handles g c i clock given =
    let s0 : Serving = c.args.self.now in
    let s1 : Serving = c.take.new.self in
    let s2 : Serving = c.give_all.new.self in
    let s3 : Serving = c.lose_failed.new.self in
    let x : Option (List ReturnedLink) = (g.D.Door.tale c.args.door.now).returned in
    let y : Option (List ReturnedLink) = (g.D.Door.tale c.give_all.new.door).returned in
    let z : Option (List ReturnedLink) = (g.D.Door.tale c.lose_failed.new.door).returned in
    let m : Option (List Given) = g.J.Notes.noted c.args.notes.now in
    let n : Option (List Given) = g.J.Notes.noted c.take.new.notes in
    let l : Option (List Given) = g.J.Notes.noted c.lose_failed.new.notes in
    let out : List Written = c.in_ok-outputs.outputs.items in
    let took = c.in_ok-outputs.ensures.takes i given in
    MatchResult-weaker c.lose_failed.result (c.lose_failed.ensures.loses clock)
    (λ _ lost. (given_out out ++ lost.0, handles_by i clock s0 s1 x m n c.in_ok-outputs.ensures.same s2 y out took.0 took.1 c.in_ok-give_all.ensures.gives lost.0 s3 z l lost.1))
    (λ f lost. (given_out out ++ lost.0, handles_not_lost i clock s0 s1 x m n c.in_ok-outputs.ensures.same s2 y out took.0 took.1 c.in_ok-give_all.ensures.gives lost.0 s3 z l f lost.1))
