-- One session more.
use Rattle.std.proofs.Common.{◌≡◌, ◌<◌, List, Some, length, ap, ◌∙◌, arith}
use Rattle.std.specs.Prelude.{option_map}
use Rattle.replay_ring.specs.Replay.{Replay}
use Rattle.session_core.specs.State.{Session}
use Rattle.worker_core.proofs.recipients.viewers_of.Goals as goal
use Rattle.worker_core.proofs.Picking.{item_at, picks_next}
use Rattle.worker_core.specs.Recipients.{viewer_of}

pub loop-index-preserved : goal.loop-index-preserved
loop-index-preserved c =
    let xs : List (Session Replay) = c.args.sessions.now.sessions in
    let i = c.loop-index.index in
    let lt : i < length xs = omega (arith, c.len-index-end.ensures.sessions) in
    let here = item_at xs i lt in
    let viewed : c.in-Some.viewer.now ≡ here.item.viewer = cc (c.in-Some.ensures, ap (option_map viewer_of) here.found) in
    picks_next viewer_of xs i here c.loop-index.viewers.items c.index_of.new.viewers.items c.loop-index.whose.items c.push.new.self.items c.in_ok-index_of.field-0 lt
    c.loop-index.invariant c.in_ok-index_of.ensures.longer c.in_ok-push.ensures.items (c.in_ok-index_of.ensures.found ∙ ap (λ v. Some v) viewed)
