-- Chunks that are made, counted and told are those of the answer.
use Rattle.std.proofs.Common.{rules, ◌≡◌, ◌+◌, length, true, sym, ap, subst, ◌∙◌}
use Rattle.std.proofs.lemmas.Result.{err_from_is_err_and}
use Rattle.session_core.specs.Frames.{Members}
use Rattle.worker_core.specs.declared.io.StepFault.{StepFault}
use Rattle.worker_core.proofs.worker.Worker.answer_to.Goals as goal
use Rattle.worker_core.specs.Replies.{GivesNot}
use Rattle.worker_core.proofs.Numbering.{answered_at, seen, still_counted}
use Rattle.worker_core.proofs.Wanting.{answer_ends, uncounted}
use Rattle.world_law.specs.Spent.{is_past}

pub returns-in_err-count_chunks : goal.returns-in_err-count_chunks
returns-in_err-count_chunks c =
    let at = seen c.args.session c.args.self.now.machine.core.sessions c.args.viewer.now c.requires in
    let list = c.in_ok-chunks.chunks.items in
    let count : c.len.result ≡ length list = search rules in
    let past : is_past c.args.self.now.machine.chunks (length list) ≡ true = ap (is_past c.args.self.now.machine.chunks) (sym count) ∙ c.in_err-count_chunks.ensures.spent in
    let p = err_from_is_err_and c.from_residual-in_err-count_chunks.result c.from_residual-in_err-count_chunks.ensures.1 in
    rw p.1 (subst (λ (f : StepFault). GivesNot c.args.self.now c.args.session (Members c.args.ask.now) f) (sym p.2)
    (uncounted c.args.self.now c.args.session c.args.ask.now at.index list at.at (answered_at c.args.self.now.machine c.args.session c.args.ask.now c.args.viewer.now list at c.in_ok-chunks.ensures) past))

pub returns : goal.returns
returns c =
    let at = seen c.args.session c.args.self.now.machine.core.sessions c.args.viewer.now c.requires in
    let list = c.in_ok-chunks.chunks.items in
    let count : c.len.result ≡ length list = search rules in
    let counted = c.in_ok-count_chunks.ensures.ok ∙ ap (λ n. record c.args.self.now { machine = record c.args.self.now.machine { chunks = c.args.self.now.machine.chunks + n } }) count in
    answer_ends c.args.self.now c.args.session c.args.ask.now at.index list at.at (answered_at c.args.self.now.machine c.args.session c.args.ask.now c.args.viewer.now list at c.in_ok-chunks.ensures)
    c.tell.result c.count_chunks.new.self c.tell.new.self c.args.out.now.items c.tell.new.out.items counted
    (ap (is_past c.args.self.now.machine.chunks) (sym count) ∙ c.in_ok-count_chunks.ensures.counted)
    c.tell.ensures.core
    ((rw c.as_slice.ensures.value at c.tell.ensures.told) at.index (still_counted c.args.self.now c.count_chunks.new.self c.args.session (c.args.self.now.machine.chunks + length list) at.index counted at.at))
