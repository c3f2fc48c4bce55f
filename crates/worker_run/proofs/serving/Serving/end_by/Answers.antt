-- The worker takes an input by which a connection ends, and its outputs go out.
use Rattle.std.proofs.Common.{List, [], Option, sym, subst}
use Rattle.std.proofs.lemmas.Result.{MatchResult-weaker, err_from_is_err_and}
use Rattle.gate_outside.specs.Links.{ReturnedLink}
use Rattle.gate_outside.specs.Doors.{DoorTale}
use Rattle.worker_core.specs.declared.io.Input.{Input as Given}
use Rattle.worker_core.specs.declared.io.Output.{Output as Written}
use Rattle.worker_run.specs.Histories.{given_out}
use Rattle.worker_run.specs.Moves.{Serving, EndsNot, now}
use Rattle.worker_run.specs.declared.fault.WorkFault.{WorkFault}
use Rattle.open_links.proofs.Composing.{same_door, same_doors}
use Rattle.worker_run.proofs.Moves.{ready_taken, ready_ended, ends_not_taken, ends_by, ends_not}
use Rattle.worker_run.proofs.serving.Serving.end_by.Goals as goal

pub give_all-requires : goal.give_all-requires
give_all-requires g c =
    let d : DoorTale = g.D.Door.tale c.args.door.now in
    let e : DoorTale = g.D.Door.tale c.end.new.door in
    record {
      ready =
          ready_ended c.args.posts.now c.take.new.self c.end.new.self d e c.end.ensures.same c.end.ensures.count c.end.ensures.door
          (ready_taken c.args.posts.now c.args.self.now c.take.new.self d c.in_ok-outputs.ensures.same c.requires.ready);
    }

pub returns-in_err-outputs-clause-ready : goal.returns-in_err-outputs-clause-ready
returns-in_err-outputs-clause-ready g c =
    ready_taken c.args.posts.now c.args.self.now c.take.new.self (g.D.Door.tale c.args.door.now) c.in_err-outputs.ensures.same c.requires.ready

pub returns-in_err-outputs-clause-door : goal.returns-in_err-outputs-clause-door
returns-in_err-outputs-clause-door g c = same_door (g.D.Door.tale c.args.door.now)

pub returns-in_err-outputs-clause-ends : goal.returns-in_err-outputs-clause-ends
returns-in_err-outputs-clause-ends g c i clock given =
    let s0 : Serving = c.args.self.now in
    let s1 : Serving = c.take.new.self in
    let x : Option (List ReturnedLink) = (g.D.Door.tale c.args.door.now).returned in
    let m : Option (List Given) = g.J.Notes.noted c.args.notes.now in
    let n : Option (List Given) = g.J.Notes.noted c.take.new.notes in
    let p = err_from_is_err_and c.from_residual.result c.from_residual.ensures.1 in
    rw p.1 (
      [],
      subst (λ (f : WorkFault). EndsNot c.args.conn i [] f (now s0 x m clock) (now s1 x n clock)) (sym p.2)
          (ends_not_taken c.args.conn i clock s0 s1 x m n c.in_err-outputs.ensures.same c.in_err-outputs.field-0.0 (c.in_err-outputs.ensures.takes i given)),
    )

pub returns-clause-door : goal.returns-clause-door
returns-clause-door g c =
    same_doors (g.D.Door.tale c.args.door.now) (g.D.Door.tale c.end.new.door) (g.D.Door.tale c.give_all.new.door) c.end.ensures.door c.give_all.ensures.door

pub returns-clause-ends : goal.returns-clause-ends
returns-clause-ends g c i clock given =
    let s0 : Serving = c.args.self.now in
    let s1 : Serving = c.take.new.self in
    let s2 : Serving = c.end.new.self in
    let s3 : Serving = c.give_all.new.self in
    let x : Option (List ReturnedLink) = (g.D.Door.tale c.args.door.now).returned in
    let y : Option (List ReturnedLink) = (g.D.Door.tale c.end.new.door).returned in
    let z : Option (List ReturnedLink) = (g.D.Door.tale c.give_all.new.door).returned in
    let m : Option (List Given) = g.J.Notes.noted c.args.notes.now in
    let n : Option (List Given) = g.J.Notes.noted c.take.new.notes in
    let out : List Written = c.in_ok-outputs.outputs.items in
    let took = c.in_ok-outputs.ensures.takes i given in
    MatchResult-weaker c.give_all.result c.give_all.ensures.gives
    (λ _ gives. (given_out out, ends_by c.args.conn i clock s0 s1 x m n c.in_ok-outputs.ensures.same s2 s3 y z c.end.ensures.same c.end.ensures.count c.end.ensures.ends out took.0 took.1 gives))
    (λ f front. (given_out front.front, ends_not c.args.conn i clock s0 s1 x m n c.in_ok-outputs.ensures.same s2 s3 y z c.end.ensures.same c.end.ensures.count c.end.ensures.ends out took.0 took.1 f front))
