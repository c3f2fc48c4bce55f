-- A frame.
use Rattle.std.proofs.Common.{sym, ap, subst, Err, Vec, Global}
use Rattle.std.proofs.lemmas.Result.{err_from_is_err_and}
use Rattle.world_law.specs.Inputs.{Frame}
use Rattle.worker_core.specs.declared.io.Output.{Output}
use Rattle.worker_core.specs.declared.io.StepFault.{StepFault}
use Rattle.worker_core.specs.Represents.{TakesNot}
use Rattle.worker_core.proofs.Moving.{frame_ends, frame_refused}
use Rattle.worker_core.proofs.worker.Worker.frame.Goals as goal

pub returns-in_err-replies : goal.returns-in_err-replies
returns-in_err-replies c =
    let p = err_from_is_err_and c.from_residual.result c.from_residual.ensures.1 in
    rw p.1 (subst (λ (f : StepFault). TakesNot c.args.self.now (Frame c.args.conn c.args.text.now) f) (sym p.2)
    (frame_refused c.args.self.now c.args.conn c.args.text.now c.in_err-replies.field-0.0 (λ e. c.in_err-replies.ensures.spent (ap Err e))))

pub returns : goal.returns
returns c =
    frame_ends c.args.self.now c.args.conn c.args.text.now
    (λ (out : Vec Output Global). out.items) c.reply_each.result c.frame_session.new.self c.reply_each.new.self c.in_ok-replies.replies.items c.in_ok-replies.ensures.replies
    c.in_ok-replies.ensures.moved c.in_ok-replies.ensures.counted c.reply_each.ensures.plain c.reply_each.ensures.one
