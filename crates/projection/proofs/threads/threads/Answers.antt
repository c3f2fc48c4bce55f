use Rattle.std.specs.Prelude.{refl}
use Rattle.collections.proofs.Finds.{IsById-filter, IsById-map}
use Rattle.guild_model.specs.Record.{thread_id}
use Rattle.dispatch_types.specs.Projection.{thread_view}
use Rattle.dispatch_types.specs.Fold.{thread_view_id}
use Rattle.projection.proofs.threads.threads.Goals as goal

pub from_ascending-requires : goal.from_ascending-requires
from_ascending-requires c =
    rw (c.in_ok-views.ensures, c.as_slice-threads.ensures.items)
    (IsById-map thread_id thread_view_id (thread_view c.args.intents c.args.me.now.user.id) (λ t. refl) _ (IsById-filter thread_id _ _ c.as_slice-threads.ensures.ascending))
