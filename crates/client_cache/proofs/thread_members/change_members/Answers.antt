use Rattle.std.proofs.Common.{refl, ◌∙◌}
use Rattle.dispatch_types.specs.Fold.{thread_view_id}
use Rattle.client_cache.specs.Sent.{membership_changed}
use Rattle.client_cache.proofs.Lists.{changed-map}
use Rattle.client_cache.proofs.thread_members.change_members.Goals as goal

pub returns : goal.returns
returns c =
    let change = c.args.change in
    c.change.ensures
    ∙ changed-map thread_view_id c.args.thread (membership_changed change.joined change.left change.count) (λ t. refl) c.args.threads.now c.as_slice-threads.ensures.ascending
