-- A connection that opens.
use Rattle.std.proofs.Common.{Vec, Global, refl, ap, ◌∙◌}
use Rattle.std.specs.Prelude.{flat_map}
use Rattle.std.specs.List.{list_all}
use Rattle.world_law.specs.Inputs.{Open}
use Rattle.worker_core.specs.declared.io.Output.{Output}
use Rattle.worker_core.specs.Replies.{is_plain, plain}
use Rattle.worker_core.proofs.Moving.{kept_copies, plain_ends, opens_plain, opens_out}
use Rattle.worker_core.proofs.worker.Worker.open.Goals as goal

pub returns : goal.returns
returns c =
    let core = c.args.self.now.machine.core in
    let replies = c.in_ok-replies.ensures.replies in
    plain_ends c.args.self.now c.open_session.new.self c.reply_each.new.self (Open c.args.conn)
    (λ (out : Vec Output Global). out.items) c.reply_each.result c.in_ok-replies.replies.items (kept_copies _ _ c.in_ok-replies.ensures.opened)
    (ap (list_all is_plain) replies ∙ opens_plain c.args.conn core) (ap (flat_map plain) replies ∙ opens_out c.args.conn core) refl c.reply_each.ensures.plain
