use Rattle.collections.proofs.Finds.{IsById-filter}
use Rattle.thread_sync.specs.ChannelSights.{sight_id, is_grown}
use Rattle.thread_sync.proofs.by_sights.grown.Goals as goal

pub from_ascending-requires : goal.from_ascending-requires
from_ascending-requires c = rw c.in_ok-grown.ensures (IsById-filter sight_id (is_grown c.args.before.now) _ c.requires)
