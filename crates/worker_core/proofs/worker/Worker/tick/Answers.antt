-- Time that passes.
use Rattle.std.proofs.Common.{Vec, Global, refl, ap, ◌∙◌}
use Rattle.std.specs.Prelude.{flat_map, max}
use Rattle.std.specs.List.{list_all}
use Rattle.session_core.specs.Ends.{silent_of}
use Rattle.world_law.specs.Inputs.{Tick}
use Rattle.worker_core.specs.declared.io.Output.{Output}
use Rattle.worker_core.specs.Replies.{is_plain, plain}
use Rattle.worker_core.proofs.Moving.{kept_copies, plain_ends, closes_plain, closes_out}
use Rattle.worker_core.proofs.worker.Worker.tick.Goals as goal

pub returns : goal.returns
returns c =
    let w = c.args.self.now.machine in
    let silent = silent_of (max w.now c.args.now) w.core.connections in
    let replies = c.in_ok-replies.ensures.replies in
    plain_ends c.args.self.now c.tick_sessions.new.self c.reply_each.new.self (Tick c.args.now)
    (λ (out : Vec Output Global). out.items) c.reply_each.result c.in_ok-replies.replies.items (kept_copies _ _ c.in_ok-replies.ensures.ticked)
    (ap (list_all is_plain) replies ∙ closes_plain silent) (ap (flat_map plain) replies ∙ closes_out silent) refl c.reply_each.ensures.plain
