-- One entry more.
use Rattle.std.proofs.Common.{◌≡◌, ◌∷◌, ◌+◌, ◌<◌, List, length, drop, sym, ap, ◌∙◌, arith}
use Rattle.edit_apply.specs.Edits.{state_from}
use Rattle.edit_apply.specs.declared.Edit.{Edit}
use Rattle.worker_core.proofs.Telling.{rest_dropped}
use Rattle.worker_core.proofs.look.apply_each.Goals as goal

pub loop-entry-preserved : goal.loop-entry-preserved
loop-entry-preserved c =
    let i = c.loop-entry.entry-index in
    let es : List Edit = c.args.entries.now in
    let e : Edit = c.entry-item.result in
    let lt : i < length es = omega arith in
    let rest : drop i es ≡ e ∷ drop (i + 1) es = rest_dropped es i e lt (sym c.entry-item.is) in
    ap (λ h. state_from h (drop (i + 1) es)) (rw c.edit.ensures at c.in_ok-apply_one.ensures) ∙ (ap (state_from c.loop-entry.guild) (sym rest) ∙ c.loop-entry.invariant)
