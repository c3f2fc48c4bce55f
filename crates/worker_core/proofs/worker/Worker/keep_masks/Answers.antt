-- The users of all sessions are among those of the viewers.
use Rattle.std.proofs.Common.{◌≡◌, List, true, sym, ap, ◌∙◌}
use Rattle.std.specs.List.{list_all}
use Rattle.dispatch_types.specs.Fold.{contains}
use Rattle.replay_ring.specs.Replay.{Replay}
use Rattle.session_core.specs.State.{Session}
use Rattle.worker_core.specs.InCode.{KeptWorker}
use Rattle.worker_core.specs.Masks.{keep_masks}
use Rattle.worker_core.proofs.Masks.{keeps_all, picked_users}
use Rattle.worker_core.proofs.Wanting.{when_ok}
use Rattle.worker_core.proofs.worker.Worker.keep_masks.Goals as goal

pub returns-clause-kept : goal.returns-clause-kept
returns-clause-kept c =
    let to = c.update.new.self in
    let us = c.as_slice.result.now in
    let xs : List (Session Replay) = c.self.inside.sessions.sessions in
    let has : list_all (λ (x : Session Replay). contains x.viewer.user us) xs ≡ true =
    ap (λ ns. list_all (λ (x : Session Replay). contains x.viewer.user ns) xs) c.as_slice.ensures.value
    ∙ picked_users to.viewers.items to.users.items to.whose.items xs c.in_ok-update.ensures to.complete in
    when_ok c.keep_each.result
    (λ all. ap (λ (k : KeptWorker). keep_masks c.keep_each.new.replicas k.machine.core.sessions) (sym c.self.view_is) ∙ keeps_all us xs c.keep_each.new.replicas has all) c.keep_each.ensures.kept
