-- One viewer more.
use Rattle.std.proofs.Common.{◌≡◌, ◌<◌, length, take_all, refl, sym, ap, ◌∙◌, arith}
use Rattle.std.proofs.lemmas.Option.{get_or_from_slice_get}
use Rattle.dispatch_types.specs.declared.viewer.Viewer.{Viewer}
use Rattle.worker_core.specs.Masks.{has_users}
use Rattle.worker_core.proofs.Masks.{next_has}
use Rattle.worker_core.proofs.Picking.{item_at}
use Rattle.worker_core.proofs.recipients.Recipients.of.Goals as goal

pub loop-viewer-init : goal.loop-viewer-init
loop-viewer-init c = refl

pub loop-viewer-preserved : goal.loop-viewer-preserved
loop-viewer-preserved c =
    let vs = c.as_slice-viewer-items.result.now in
    let i = c.loop-viewer.viewer-index in
    let lt : i < length vs = omega (arith) in
    let here = item_at vs i lt in
    let same : c.viewer-item.result ≡ here.item = c.viewer-item.is ∙ get_or_from_slice_get vs i here.item c.viewer-item.result here.found in
    next_has c.loop-viewer.users.items c.index_of_user.new.users.items vs i here c.in_ok-index_of_user.field-0 c.viewer-item.result.user lt c.loop-viewer.invariant
    c.in_ok-index_of_user.ensures.longer c.in_ok-index_of_user.ensures.found (ap (λ (v : Viewer). v.user) same)

pub invariant_of-result : goal.invariant_of-result
invariant_of-result c =
    let vs = c.as_slice-viewer-items.result.now in
    let us = c.loop-viewer.users.items in
    record { complete = ap (has_users us) (sym c.as_slice-viewer-items.ensures.value ∙ sym (take_all c.loop-viewer.viewer-index vs (omega (arith)))) ∙ c.loop-viewer.invariant }
