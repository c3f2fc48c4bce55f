-- One viewer more.
use Rattle.std.proofs.Common.{◌≡◌, ◌<◌, ℕ, List, [], ◌∷◌, ◌++◌, Some, length, map, sym, ap, ◌∙◌, arith}
use Rattle.std.specs.Prelude.{slice_get}
use Rattle.std.proofs.lemmas.Option.{get_or_from_slice_get, none-some, same_Some}
use Rattle.dispatch_types.specs.declared.viewer.Viewer.{Viewer}
use Rattle.edit_events.specs.Due.{due}
use Rattle.edit_events.specs.Was.{was_of}
use Rattle.worker_core.proofs.due.DueDispatches.update.Goals as goal
use Rattle.worker_core.proofs.Noting.{noted_at}
use Rattle.worker_core.proofs.Picking.{item_at, picks_next}

pub loop-index-init : goal.loop-index-init
loop-index-init c s noted is accepted =
    (ap (map (slice_get c.clear.new.self.items)) (c.in_ok-reserve.ensures.items ∙ c.clear-2.ensures.items), λ f index v at formed. absurd (cc (c.new-self.ensures (Some f), at)))

-- each viewer has a note
pub returns-in_default : goal.returns-in_default
returns-in_default c s noted is accepted =
    let vs : List Viewer = c.args.recipients.now.viewers.items in
    let i = c.loop-index.index in
    let lt : i < length vs = omega arith in
    let here = item_at vs i lt in
    absurd (none-some _ (c.in_default.ensures ∙ noted_at s c.args.entry.now vs i c.args.notes.now.noted.items c.args.notes.now.whose.items here.item noted here.found))

pub loop-index-preserved : goal.loop-index-preserved
loop-index-preserved c s noted is accepted =
    let vs : List Viewer = c.args.recipients.now.viewers.items in
    let i = c.loop-index.index in
    let e = c.args.entry.now in
    let lt : i < length vs = omega arith in
    let here = item_at vs i lt in
    let v : Viewer = c.index-viewers-index.result in
    let viewed : v ≡ here.item = rw c.as_slice-viewers.ensures.value at c.index-viewers-index.is ∙ get_or_from_slice_get vs i here.item v here.found in
    let kept : Some c.in-Some.was.now ≡ Some (was_of s here.item e) =
    c.in-Some.ensures ∙ noted_at s e vs i c.args.notes.now.noted.items c.args.notes.now.whose.items here.item noted here.found in
    let noted_here : c.in-Some.was.now ≡ was_of s v e = same_Some _ _ kept ∙ ap (λ (w : Viewer). was_of s w e) (sym viewed) in
    let both = c.in_ok-due.ensures.due s noted_here is accepted (c.loop-index.invariant s noted is accepted).1 in
    let pushed = c.in_ok-push.ensures.items ∙ ap (λ (ks : List ℕ). ks ++ c.in_ok-due.due ∷ []) c.index_for.ensures.whose in
    let picks =
    picks_next (due s e) vs i here c.loop-index.self.told.items c.index_for.new.self.told.items c.loop-index.self.whose.items c.push.new.self.items c.in_ok-due.due lt
    (c.loop-index.invariant s noted is accepted).0 c.in_ok-due.ensures.longer pushed (both.0 ∙ ap (λ (w : Viewer). Some (due s e w)) viewed) in
    (picks, both.1)
