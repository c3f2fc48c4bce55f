use Rattle.std.proofs.Common.{◌≡◌, List, length, sym, ap, subst, ◌∙◌}
use Rattle.std.specs.Prelude.{◌==◌, IfOk, filter}
use Rattle.collections.specs.ById.{IsById}
use Rattle.guild_model.specs.Sight.{standing}
use Rattle.thread_sync.specs.declared.channel_sight.ChannelSight.{ChannelSight}
use Rattle.thread_sync.specs.ChannelSights.{sight_id, sights, is_grown, by_sights}
use Rattle.thread_sync.specs.Sync.{list_sync}
use Rattle.thread_sync.proofs.Grown.{sync-grown, none-grown}
use Rattle.thread_sync.proofs.by_sights.uncovered_between.Goals as goal

pub returns-then-len-eq0 : goal.returns-then-len-eq0
returns-then-len-eq0 c =
    let ascends : IsById sight_id (sights (standing c.args.guild.now c.args.me.now)) = subst (IsById sight_id) c.requires c.as_slice.ensures.ascending in
    let found : c.in_ok-grown.grown ≡ filter (is_grown c.args.before.now) (sights (standing c.args.guild.now c.args.me.now)) =
    c.in_ok-grown.ensures ∙ ap (filter (is_grown c.args.before.now)) (c.as_slice.ensures.items ∙ c.requires) in
    none-grown c.args.before.now c.args.guild.now c.args.me.now ascends c.in_ok-grown.grown found
    (let e : length c.in_ok-grown.grown ≡ 0 = sym c.len.ensures ∙ c.if-len-eq0.true in ap (λ n. n == 0) e)

pub returns : goal.returns
returns c =
    let ascends : IsById sight_id (sights (standing c.args.guild.now c.args.me.now)) = subst (IsById sight_id) c.requires c.as_slice.ensures.ascending in
    let found : c.in_ok-grown.grown ≡ filter (is_grown c.args.before.now) (sights (standing c.args.guild.now c.args.me.now)) =
    c.in_ok-grown.ensures ∙ ap (filter (is_grown c.args.before.now)) (c.as_slice.ensures.items ∙ c.requires) in
    subst (λ due. IfOk c.list_sync.result (λ told. told ≡ due))
    (ap (λ (ls : List ChannelSight). list_sync (by_sights c.args.before.now) (by_sights ls) c.args.guild.now c.args.me.now.user.id) found ∙ sync-grown c.args.before.now c.args.guild.now c.args.me.now ascends)
    c.list_sync.ensures
