-- One session more.
use Rattle.std.proofs.Common.{◌≡◌, ◌+◌, ◌<◌, ℕ, List, [], Some, length, take, sym, ap, ◌∙◌, append-nil, arith}
use Rattle.std.proofs.lemmas.Grind.{common_steps}
use Rattle.std.specs.Prelude.{option_map, slice_get}
use Rattle.dispatch_types.specs.declared.viewer.Viewer.{Viewer}
use Rattle.replay_ring.specs.Replay.{Replay}
use Rattle.session_core.specs.State.{Session}
use Rattle.worker_core.proofs.recipients.Recipients.are_of.Goals as goal
use Rattle.worker_core.proofs.Picking.{item_at, picks_next}
use Rattle.worker_core.proofs.Telling.{last_taken}
use Rattle.worker_core.specs.Recipients.{picked_by, viewer_of}

pub loop-index-preserved : goal.loop-index-preserved
loop-index-preserved c =
    let xs : List (Session Replay) = c.args.sessions.now.sessions in
    let vs : List Viewer = c.args.self.now.viewers.items in
    let ks : List ℕ = c.args.self.now.whose.items in
    let i = c.loop-index.index in
    let lt : i < length xs = omega (arith, c.len-index-end.ensures.sessions) in
    let within : i < length ks = omega (arith, c.len.ensures, c.if-len.false, c.len-2.ensures.sessions) in
    let here = item_at xs i lt in
    let place = item_at ks i within in
    let viewed : c.in-Some-Some.viewer.now ≡ here.item.viewer = cc (c.in-Some-Some.ensures', ap (option_map viewer_of) here.found) in
    let known : slice_get vs place.item ≡ Some c.in-Some-Some.known.now = sym (c.in-Some-Some.ensures ∙ ap (picked_by vs) place.found) in
    let same : c.in-Some-Some.known.now ≡ c.in-Some-Some.viewer.now = grind (arith, common_steps, c.ne.ensures, c.if-ne.false) in
    picks_next viewer_of xs i here vs vs (take i ks) (take (i + 1) ks) place.item lt c.loop-index.invariant ([], sym (append-nil vs)) (last_taken ks i place.item within place.read) (known ∙ ap (λ v. Some v) (same ∙ viewed))
