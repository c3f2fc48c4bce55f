use Rattle.std.proofs.Common.{◌≡◌, ◌≤◌, ◌+◌, map, take}
use Rattle.std.specs.Prelude.{All}
use Rattle.std.specs.List.{sum_by}
use Rattle.guild_model.specs.Record.{channel_id}
use Rattle.mask_cache.specs.Masks.{masked_channel}
use Rattle.mask_cache.proofs.Listed.{IsRight, channel_looks}
use Rattle.mask_cache.proofs.channel_mask.channel_masks.Given as goal

abbrev pub invariant-loop-channel : goal.invariant-loop-channel
invariant-loop-channel g l = record {
  ids : map masked_channel l.masks.items ≡ map channel_id (take l.channel-index l.channels);
  right : All (IsRight l.guild l.fn.user) l.masks.items;
  at_least : l.fn.steps ≤ l.steps;
  at_most : l.steps ≤ l.fn.steps + sum_by channel_looks (take l.channel-index l.channels);
}
