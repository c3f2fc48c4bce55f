use Rattle.std.proofs.Common.{take, ◌∙◌}
use Rattle.std.proofs.lemmas.Result.{err_from_is_err_and}
use Rattle.scenario.specs.Server.{followed}
use Rattle.scenario.proofs.Follows.{follow_next, carries_next, front_next}
use Rattle.scenario.proofs.writing.write_outputs.Goals as goal

pub returns-in_err-write_followed-clause-follows : goal.returns-in_err-write_followed-clause-follows
returns-in_err-write_followed-clause-follows g c p stands =
    let e = err_from_is_err_and c.from_residual.result c.from_residual.ensures.1 in
    let so_far = c.loop-output.invariant.follows p stands in
    rw e.1 (front_next c.args.outputs.now c.loop-output.output-index c.output-item.result c.loop-output-test.true c.output-item.is p c.args.line _ _ _ _ _ _
    so_far.1 (c.in_err-write_followed.ensures.follows (followed p (take c.loop-output.output-index c.args.outputs.now)) so_far.0))

pub loop-output-preserved : goal.loop-output-preserved
loop-output-preserved g c = record {
  follows = λ p stands.
      let so_far = c.loop-output.invariant.follows p stands in
      let next = c.in_ok-write_followed.ensures.follows (followed p (take c.loop-output.output-index c.args.outputs.now)) so_far.0 in (
        rw (follow_next c.args.outputs.now c.loop-output.output-index c.output-item.result c.loop-output-test.true c.output-item.is p c.args.line) next.0,
        carries_next c.args.outputs.now c.loop-output.output-index c.output-item.result c.loop-output-test.true c.output-item.is p c.args.line _ _ _ _ _ _ so_far.1 next.1,
      );
  faults = c.in_ok-write_followed.ensures.cause.ok ∙ c.loop-output.invariant.faults;
}
