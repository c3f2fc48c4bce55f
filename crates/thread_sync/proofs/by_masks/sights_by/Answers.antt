use Rattle.std.proofs.Common.{take_all, refl, sym, subst, ◌∙◌}
use Rattle.collections.specs.ById.{IsById}
use Rattle.collections.proofs.Finds.{IsById-filter, IsById-map}
use Rattle.guild_model.specs.declared.channel.Channel.{Channel}
use Rattle.guild_model.specs.Record.{channel_id}
use Rattle.thread_sync.specs.ChannelSights.{sight_of, sight_id, is_seen}
use Rattle.thread_sync.proofs.by_masks.sights_by.Goals as goal

pub from_ascending-requires : goal.from_ascending-requires
from_ascending-requires g c =
    let ascends = subst (IsById channel_id) (sym (take_all c.loop-channel.channel-index c.as_slice-channel-items.result.now c.loop-channel-test.false ∙ c.as_slice-channel-items.ensures.items)) c.as_slice-channel-items.ensures.ascending in
    rw c.loop-channel.invariant
    (IsById-filter sight_id is_seen _ (IsById-map channel_id sight_id (λ (x : Channel). sight_of c.args.guild.now c.args.me.now x.id) (λ x. refl) _ ascends))
