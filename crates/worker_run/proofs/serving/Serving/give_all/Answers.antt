-- Outputs go out one after another.
use Rattle.std.proofs.Common.{rules, ◌≡◌, List, [], ◌∷◌, ◌++◌, Option, sym, ap, subst, refl, ◌∙◌, append-nil, append_assoc}
use Rattle.std.proofs.lemmas.Result.{err_from_is_err_and}
use Rattle.std.specs.Vec.Iter.{into_iter_items}
use Rattle.gate_outside.specs.Links.{ReturnedLink}
use Rattle.worker_core.specs.declared.io.Output.{Output as Written}
use Rattle.worker_core.proofs.Moving.{nothing_left}
use Rattle.worker_run.specs.Histories.{given_out}
use Rattle.worker_run.specs.Moves.{Gives, GivesFront}
use Rattle.worker_run.specs.declared.fault.WorkFault.{WorkFault}
use Rattle.open_links.proofs.Composing.{same_door, same_doors}
use Rattle.worker_run.proofs.Moves.{gives_none, gives_next, gives_front}
use Rattle.worker_run.proofs.serving.Serving.give_all.Goals as goal

pub loop-output-init : goal.loop-output-init
loop-output-init g c = record {
  all = search rules;
  count = search rules;
  ready = c.requires.ready;
  door = same_door (g.D.Door.tale c.args.door.now);
  faults = refl;
  gives = gives_none c.args.self.now (g.D.Door.tale c.args.door.now).returned;
}

pub loop-output-preserved : goal.loop-output-preserved
loop-output-preserved g c =
    let at = c.loop-output in
    let output : Written = c.in-Some.output in
    let later : List Written = into_iter_items c.next.new.self in
    record {
      all = append_assoc at.yielded (output ∷ []) later ∙ (ap (λ (os : List Written). at.yielded ++ os) (sym c.in-Some.ensures.steps.0) ∙ at.invariant.all);
      count = search rules;
      ready = c.in_ok-give.ensures.ready;
      door = same_doors (g.D.Door.tale c.args.door.now) (g.D.Door.tale at.door) (g.D.Door.tale c.give.new.door) at.invariant.door c.in_ok-give.ensures.door;
      faults = c.in_ok-give.ensures.faults ∙ at.invariant.faults;
      gives = gives_next at.yielded output c.args.self.now at.self c.give.new.self
          (g.D.Door.tale c.args.door.now).returned (g.D.Door.tale at.door).returned (g.D.Door.tale c.give.new.door).returned at.invariant.gives c.in_ok-give.ensures.gives;
    }

pub returns-in_err-give-clause-door : goal.returns-in_err-give-clause-door
returns-in_err-give-clause-door g c =
    same_doors (g.D.Door.tale c.args.door.now) (g.D.Door.tale c.loop-output.door) (g.D.Door.tale c.give.new.door) c.loop-output.invariant.door c.in_err-give.ensures.door

pub returns-in_err-give-clause-gives : goal.returns-in_err-give-clause-gives
returns-in_err-give-clause-gives g c =
    let at = c.loop-output in
    let output : Written = c.in-Some.output in
    let later : List Written = into_iter_items c.next.new.self in
    let x : Option (List ReturnedLink) = (g.D.Door.tale c.args.door.now).returned in
    let y : Option (List ReturnedLink) = (g.D.Door.tale at.door).returned in
    let z : Option (List ReturnedLink) = (g.D.Door.tale c.give.new.door).returned in
    let whole : at.yielded ++ output ∷ later ≡ c.args.outputs.items =
    ap (λ (os : List Written). at.yielded ++ os) (sym c.in-Some.ensures.steps.0) ∙ (at.invariant.all ∙ c.into_iter-output-iterator.ensures.into_iter_gives.0) in
    let p = err_from_is_err_and c.from_residual.result c.from_residual.ensures.1 in
    rw p.1 (subst (λ (f : WorkFault). GivesFront c.args.outputs.items f c.args.self.now c.give.new.self x z) (sym p.2)
    (gives_front c.args.outputs.items at.yielded (output ∷ later) c.in_err-give.field-0.0 c.args.self.now at.self c.give.new.self x y z (sym whole) at.invariant.gives c.in_err-give.ensures.gives))

pub returns-clause-gives : goal.returns-clause-gives
returns-clause-gives g c =
    let at = c.loop-output in
    let x : Option (List ReturnedLink) = (g.D.Door.tale c.args.door.now).returned in
    let y : Option (List ReturnedLink) = (g.D.Door.tale at.door).returned in
    let empty : into_iter_items at.output-iterator ≡ [] = nothing_left _ (sym at.invariant.count ∙ c.in-None.ensures.steps.0) in
    let all = sym (append-nil at.yielded) ∙ rw empty at at.invariant.all ∙ c.into_iter-output-iterator.ensures.into_iter_gives.0 in
    subst (λ (os : List Written). Gives (given_out os) c.args.self.now at.self x y) all at.invariant.gives
