use Rattle.std.proofs.Common.{◌++◌, [], ◌∷◌, Option, Some, None, Ok, Err, sym, ap, ◌∙◌, subst}
use Rattle.std.proofs.KnownBytes.{Consumes-trans}
use Rattle.std.proofs.lemmas.Result.{err_from_is_err_and}
use Rattle.edit_text.specs.declared.line.Line.{Line}
use Rattle.file_script.specs.Heads.{is_head_line}
use Rattle.file_script.specs.Reads.{HasGiven, Gives}
use Rattle.file_script.specs.Sends.{DeclaresLine, ReadsHeads}
use Rattle.file_script.proofs.Declaring.{adds_one, adds_same, heads_end}
use Rattle.file_script.proofs.head.read_heads.Goals as goal

pub returns-in_err-line-clause-reads : goal.returns-in_err-line-clause-reads
returns-in_err-line-clause-reads g c has =
    let left = g.S.Source.left in
    let at = c.loop-line.invariant.reads has in
    let gives = c.in_err-line.ensures.gives at.0 at.1 at.3 in
    let e = err_from_is_err_and c.from_residual.result c.from_residual.ensures.1 in (
      at.0 ++ gives.0,
      Consumes-trans (left c.args.source.now) (left c.loop-line.source) (left c.next.new.source) at.0 gives.0 at.2 gives.1,
      subst (λ r. ReadsHeads (left c.next.new.source) c.next.new.self (at.0 ++ gives.0) c.args.declared.now c.loop-line.declared r) (sym (e.1 ∙ ap Err e.2))
          (heads_end (left c.next.new.source) c.next.new.self (at.0 ++ gives.0) at.1 c.args.declared.now c.loop-line.declared c.in_err-line.field-0.0 at.4 gives.2),
    )

pub returns-in_err-step-clause-reads : goal.returns-in_err-step-clause-reads
returns-in_err-step-clause-reads g c has =
    let left = g.S.Source.left in
    let at = c.loop-line.invariant.reads has in
    let gives = c.in_ok-line.ensures.gives at.0 at.1 at.3 in
    let e = err_from_is_err_and c.from_residual-in_err-step.result c.from_residual-in_err-step.ensures.1 in (
      at.0 ++ gives.0,
      Consumes-trans (left c.args.source.now) (left c.loop-line.source) (left c.next.new.source) at.0 gives.0 at.2 gives.1,
      subst (λ r. ReadsHeads (left c.next.new.source) c.next.new.self (at.0 ++ gives.0) c.args.declared.now c.add.new.self r) (sym (e.1 ∙ ap Err (e.2 ∙ c.in_err-step.ensures))) tt,
    )

pub returns-in-Some-2-clause-reads : goal.returns-in-Some-2-clause-reads
returns-in-Some-2-clause-reads g c has =
    let left = g.S.Source.left in
    let line : Line = c.in-Some.line in
    let at = c.loop-line.invariant.reads has in
    let gives = c.in_ok-line.ensures.gives at.0 at.1 at.3 in
    let more : HasGiven (left c.next.new.source) c.next.new.self (at.0 ++ gives.0) (at.1 ++ line ∷ []) =
    subst (λ (o : Option Line). Gives (left c.next.new.source) c.next.new.self (at.0 ++ gives.0) at.1 (Ok o)) c.in-Some.is gives.2 in
    let other : DeclaresLine line c.loop-line.declared c.add.new.self (Ok (Some c.in-Some-2.step)) =
    subst (λ (o : Option Line). DeclaresLine line c.loop-line.declared c.add.new.self (Ok o)) c.in-Some-2.is c.in_ok-step.ensures in (
      at.0 ++ gives.0,
      Consumes-trans (left c.args.source.now) (left c.loop-line.source) (left c.next.new.source) at.0 gives.0 at.2 gives.1,
      (
        at.1,
        adds_same at.1 c.args.declared.now c.loop-line.declared c.add.new.self at.4 other.2 other.3,
        ap is_head_line other.1 ∙ other.0,
        subst (λ (l : Line). HasGiven (left c.next.new.source) c.next.new.self (at.0 ++ gives.0) (at.1 ++ l ∷ [])) (sym other.1) more,
      ),
    )

pub loop-line-preserved : goal.loop-line-preserved
loop-line-preserved g c =
    let left = g.S.Source.left in
    let line : Line = c.in-Some.line in
    let one : DeclaresLine line c.loop-line.declared c.add.new.self (Ok None) =
    subst (λ (o : Option Line). DeclaresLine line c.loop-line.declared c.add.new.self (Ok o)) c.in_default-2.is c.in_ok-step.ensures in
    record {
      reads = λ has.
          let at = c.loop-line.invariant.reads has in
          let gives = c.in_ok-line.ensures.gives at.0 at.1 at.3 in
          let more : HasGiven (left c.next.new.source) c.next.new.self (at.0 ++ gives.0) (at.1 ++ line ∷ []) =
          subst (λ (o : Option Line). Gives (left c.next.new.source) c.next.new.self (at.0 ++ gives.0) at.1 (Ok o)) c.in-Some.is gives.2 in (
            at.0 ++ gives.0,
            at.1 ++ line ∷ [],
            Consumes-trans (left c.args.source.now) (left c.loop-line.source) (left c.next.new.source) at.0 gives.0 at.2 gives.1,
            more,
            adds_one at.1 line c.args.declared.now c.loop-line.declared c.add.new.self at.4 one,
          );
      faults = c.in_ok-line.ensures.cause ∙ c.loop-line.invariant.faults;
    }

pub returns-clause-reads : goal.returns-clause-reads
returns-clause-reads g c has =
    let left = g.S.Source.left in
    let at = c.loop-line.invariant.reads has in
    let gives = c.in_ok-line.ensures.gives at.0 at.1 at.3 in
    let ends : Gives (left c.next.new.source) c.next.new.self (at.0 ++ gives.0) at.1 (Ok None) =
    subst (λ (o : Option Line). Gives (left c.next.new.source) c.next.new.self (at.0 ++ gives.0) at.1 (Ok o)) c.in_default.is gives.2 in
    (at.0 ++ gives.0, Consumes-trans (left c.args.source.now) (left c.loop-line.source) (left c.next.new.source) at.0 gives.0 at.2 gives.1, (at.1, at.4, tt, ends))
