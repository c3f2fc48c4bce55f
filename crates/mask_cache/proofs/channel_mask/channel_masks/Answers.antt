use Rattle.std.proofs.Common.{◌≡◌, List, map, arith, refl, sym, ap, subst, ◌∙◌}
use Rattle.std.specs.List.{sum_by}
use Rattle.std.proofs.lemmas.List.Elements.{All-push}
use Rattle.collections.specs.ById.{IsById}
use Rattle.guild_model.specs.declared.channel.Channel.{Channel}
use Rattle.guild_model.specs.Record.{Record, channel_id}
use Rattle.mask_cache.specs.declared.channel_mask.ChannelMask.{ChannelMask}
use Rattle.mask_cache.specs.Masks.{masked_channel}
use Rattle.mask_cache.specs.Law.{all_overwrites}
use Rattle.mask_cache.proofs.Listed.{IsRight, channel_looks, looks-at, sum-more, sum-within, ids-more, ids-all, ascends-as, masks-right}
use Rattle.mask_cache.proofs.channel_mask.channel_masks.Goals as goal

pub returns-in_err-push-clause-at_most : goal.returns-in_err-push-clause-at_most
returns-in_err-push-clause-at_most g c =
    let cs = c.as_slice-channels.result.now in
    let same : cs ≡ c.args.guild.now.channels = c.as_slice-channels.ensures.items ∙ ap (λ (r : Record). r.channels) c.guild.view_is in
    let ascends : IsById channel_id cs = subst (λ (xs : List Channel). IsById channel_id xs) (sym c.as_slice-channels.ensures.items) c.as_slice-channels.ensures.ascending in
    let all : sum_by channel_looks cs ≡ all_overwrites c.args.guild.now = ap (sum_by channel_looks) same in
    omega (
      arith,
      all,
      c.mask_from-mask.ensures.at_most,
      c.loop-channel.invariant.at_most,
      looks-at cs c.loop-channel.channel-index c.channel-item.result c.loop-channel-test.true c.channel-item.is c.args.guild.now same ascends,
      sum-within cs c.loop-channel.channel-index c.channel-item.result c.loop-channel-test.true c.channel-item.is,
    )

pub loop-channel-preserved : goal.loop-channel-preserved
loop-channel-preserved g c =
    let cs = c.as_slice-channels.result.now in
    let item = c.channel-item.result in
    let new : ChannelMask = record { channel = item.id; mask = c.mask_from-mask.result } in
    let same : cs ≡ c.args.guild.now.channels = c.as_slice-channels.ensures.items ∙ ap (λ (r : Record). r.channels) c.guild.view_is in
    let ascends : IsById channel_id cs = subst (λ (xs : List Channel). IsById channel_id xs) (sym c.as_slice-channels.ensures.items) c.as_slice-channels.ensures.ascending in
    let looks = looks-at cs c.loop-channel.channel-index item c.loop-channel-test.true c.channel-item.is c.args.guild.now same ascends in
    let more = sum-more cs c.loop-channel.channel-index item c.loop-channel-test.true c.channel-item.is in
    record {
      ids = rw c.in_ok-push.ensures.items (ids-more cs c.loop-channel.channel-index item c.loop-channel-test.true c.channel-item.is c.loop-channel.masks.items new refl c.loop-channel.invariant.ids);
      right = rw c.in_ok-push.ensures.items (All-push (IsRight c.args.guild.now c.args.user) c.loop-channel.masks.items new c.loop-channel.invariant.right c.mask_from-mask.ensures.bits);
      at_least = omega (arith, c.loop-channel.invariant.at_least, c.mask_from-mask.ensures.at_least);
      at_most = omega (arith, looks, more, c.loop-channel.invariant.at_most, c.mask_from-mask.ensures.at_most);
    }

pub from_ascending-requires : goal.from_ascending-requires
from_ascending-requires g c =
    let cs = c.as_slice-channels.result.now in
    let ascends : IsById channel_id cs = subst (λ (xs : List Channel). IsById channel_id xs) (sym c.as_slice-channels.ensures.items) c.as_slice-channels.ensures.ascending in
    ascends-as masked_channel channel_id c.loop-channel.masks.items cs
    (ids-all c.loop-channel.masks.items cs c.loop-channel.channel-index c.loop-channel-test.false c.loop-channel.invariant.ids) ascends

pub returns-clause-masks : goal.returns-clause-masks
returns-clause-masks g c =
    let cs = c.as_slice-channels.result.now in
    let same : cs ≡ c.args.guild.now.channels = c.as_slice-channels.ensures.items ∙ ap (λ (r : Record). r.channels) c.guild.view_is in
    let ids = ids-all c.loop-channel.masks.items cs c.loop-channel.channel-index c.loop-channel-test.false c.loop-channel.invariant.ids in
    rw c.from_ascending.ensures (masks-right c.args.guild.now c.args.user c.loop-channel.masks.items (ids ∙ ap (λ (xs : List Channel). map channel_id xs) same) c.loop-channel.invariant.right)
