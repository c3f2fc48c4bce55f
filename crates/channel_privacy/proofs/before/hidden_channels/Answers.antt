use Rattle.std.proofs.Common.{refl}
use Rattle.collections.proofs.Finds.{IsById-filter, IsById-map}
use Rattle.guild_model.specs.Record.{own_id, channel_id}
use Rattle.channel_privacy.proofs.before.hidden_channels.Goals as goal

pub from_ascending-requires : goal.from_ascending-requires
from_ascending-requires c = rw (c.in_ok-ids.ensures, c.as_slice.ensures.items) (IsById-map channel_id own_id channel_id (λ x. refl) _ (IsById-filter channel_id _ _ c.as_slice.ensures.ascending))
