use Rattle.std.proofs.Common.{refl}
use Rattle.collections.proofs.Finds.{IsById-filter, IsById-map}
use Rattle.guild_model.specs.Record.{channel_id}
use Rattle.thread_sync.specs.ChannelSights.{sight_in, sight_id, is_seen}
use Rattle.thread_sync.proofs.channel_sight.sights.Goals as goal

pub from_ascending-requires : goal.from_ascending-requires
from_ascending-requires c =
    rw c.in_ok-seen.ensures
    (IsById-filter sight_id is_seen _ (IsById-map channel_id sight_id (λ x. sight_in c.args.standing.now c.args.user x.id) (λ x. refl) _ c.requires))
