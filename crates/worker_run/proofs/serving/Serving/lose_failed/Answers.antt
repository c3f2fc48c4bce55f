-- Connections are lost one after another.
use Rattle.std.proofs.Common.{[], ◌∷◌, ◌++◌, sym, subst, refl, ◌∙◌}
use Rattle.std.proofs.lemmas.Result.{err_from_is_err_and}
use Rattle.world_law.specs.Inputs.{Lost}
use Rattle.worker_run.specs.Histories.{Took, History}
use Rattle.worker_run.specs.Moves.{LosesNot, Now, now}
use Rattle.worker_run.specs.declared.fault.WorkFault.{WorkFault}
use Rattle.open_links.proofs.Composing.{same_door, same_doors}
use Rattle.worker_run.proofs.Moves.{loses_none, loses_one, loses_more, loses_not_one, loses_not_more}
use Rattle.worker_run.proofs.serving.Serving.lose_failed.Goals as goal

pub loop-init : goal.loop-init
loop-init g c = record {
  ready = c.requires.ready;
  door = same_door (g.D.Door.tale c.args.door.now);
  faults = refl;
  loses = λ clock. ([], loses_none (now c.args.self.now (g.D.Door.tale c.args.door.now).returned (g.J.Notes.noted c.args.notes.now) clock));
}

pub loop-preserved : goal.loop-preserved
loop-preserved g c =
    let at = c.loop in
    record {
      ready = c.in_ok-end_by.ensures.ready;
      door = same_doors (g.D.Door.tale c.args.door.now) (g.D.Door.tale at.door) (g.D.Door.tale c.end_by.new.door) at.invariant.door c.in_ok-end_by.ensures.door;
      faults = c.in_ok-end_by.ensures.faults ∙ at.invariant.faults;
      loses = λ clock.
          let n0 : Now = now c.args.self.now (g.D.Door.tale c.args.door.now).returned (g.J.Notes.noted c.args.notes.now) clock in
          let n1 : Now = now at.self (g.D.Door.tale at.door).returned (g.J.Notes.noted at.notes) clock in
          let n2 : Now = now c.end_by.new.self (g.D.Door.tale c.end_by.new.door).returned (g.J.Notes.noted c.end_by.new.notes) clock in
          let before = at.invariant.loses clock in
          let one = c.in_ok-end_by.ensures.ends (Lost c.in-Some.conn) clock refl in
          let h : History = Took (Lost c.in-Some.conn) ∷ one.0 in
          (before.0 ++ h, loses_more before.0 h n0 n1 n2 before.1 (loses_one c.in-Some.conn one.0 n1 n2 c.in-Some.ensures one.1));
    }

pub returns-in_err-end_by-clause-door : goal.returns-in_err-end_by-clause-door
returns-in_err-end_by-clause-door g c =
    same_doors (g.D.Door.tale c.args.door.now) (g.D.Door.tale c.loop.door) (g.D.Door.tale c.end_by.new.door) c.loop.invariant.door c.in_err-end_by.ensures.door

pub returns-in_err-end_by-clause-loses : goal.returns-in_err-end_by-clause-loses
returns-in_err-end_by-clause-loses g c clock =
    let at = c.loop in
    let n0 : Now = now c.args.self.now (g.D.Door.tale c.args.door.now).returned (g.J.Notes.noted c.args.notes.now) clock in
    let n1 : Now = now at.self (g.D.Door.tale at.door).returned (g.J.Notes.noted at.notes) clock in
    let n2 : Now = now c.end_by.new.self (g.D.Door.tale c.end_by.new.door).returned (g.J.Notes.noted c.end_by.new.notes) clock in
    let before = at.invariant.loses clock in
    let one = c.in_err-end_by.ensures.ends (Lost c.in-Some.conn) clock refl in
    let h : History = before.0 ++ (Took (Lost c.in-Some.conn) ∷ one.0) in
    let fault : WorkFault = c.in_err-end_by.field-0.0 in
    let p = err_from_is_err_and c.from_residual.result c.from_residual.ensures.1 in
    rw p.1 (
      h,
      subst (λ (f : WorkFault). LosesNot h f n0 n2) (sym p.2)
          (loses_not_more before.0 (Took (Lost c.in-Some.conn) ∷ one.0) n0 n1 n2 before.1 fault (loses_not_one c.in-Some.conn one.0 n1 n2 c.in-Some.ensures fault one.1)),
    )
