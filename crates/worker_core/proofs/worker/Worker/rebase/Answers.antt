-- A log that is taken over whole.
use Rattle.std.proofs.Common.{Vec, Global, sym, ◌∙◌}
use Rattle.edit_apply.specs.Edits.{state_from}
use Rattle.worker_core.specs.declared.io.Output.{Output}
use Rattle.worker_core.proofs.Moving.{rebase_past, rebase_ends}
use Rattle.worker_core.proofs.worker.Worker.rebase.Goals as goal

pub returns-then-not-has_replica : goal.returns-then-not-has_replica
returns-then-not-has_replica c log is =
    rebase_past c.args.self.now c.args.guild log c.new.result.items (sym c.has_replica.ensures.found ∙ c.if-not-has_replica.true) c.new.ensures.items

pub returns : goal.returns
returns c log is =
    rebase_ends c.args.self.now c.replace_record.new.self c.end_sessions.new.self c.args.guild log (state_from c.args.basis c.args.entries.now) is
    (sym c.has_replica.ensures.found ∙ c.if-not-has_replica.false) c.in_ok-replace_record.ensures c.in_ok-replies.ensures.ended
    c.reply_each.new.self (λ (out : Vec Output Global). out.items) c.reply_each.result c.in_ok-replies.replies.items c.in_ok-replies.ensures.replies c.reply_each.ensures.plain
