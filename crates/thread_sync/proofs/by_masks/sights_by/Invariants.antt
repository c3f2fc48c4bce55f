use Rattle.std.proofs.Common.{◌≡◌, take}
use Rattle.guild_model.specs.Sight.{standing}
use Rattle.thread_sync.specs.ChannelSights.{seen_in}
use Rattle.thread_sync.proofs.by_masks.sights_by.Given as goal

abbrev pub invariant-loop-channel : goal.invariant-loop-channel
invariant-loop-channel g l = l.seen.items ≡ seen_in (standing l.guild l.me) l.me.user.id (take l.channel-index l.channel-items)
