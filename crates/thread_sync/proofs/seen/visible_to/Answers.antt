use Rattle.std.proofs.Common.{◌≡◌, map, refl, sym, ap, subst, ◌∙◌}
use Rattle.std.specs.Prelude.{filter}
use Rattle.collections.specs.ById.{IsById}
use Rattle.collections.proofs.Finds.{IsById-filter, IsById-map}
use Rattle.guild_model.specs.Record.{Record, own_id, thread_id}
use Rattle.guild_model.specs.Sight.{Standing, standing}
use Rattle.thread_sync.specs.ChannelSights.{sight_id, seen_in, sights, shows_among}
use Rattle.thread_sync.proofs.Steps.{visible-parts}
use Rattle.thread_sync.proofs.seen.visible_to.Goals as goal

pub from_ascending-channels-requires : goal.from_ascending-channels-requires
from_ascending-channels-requires c =
    rw c.in_ok-channels.ensures
    (IsById-map sight_id own_id sight_id (λ l. refl) _ (subst (IsById sight_id) (sym c.as_slice-2.ensures.items) c.as_slice-2.ensures.ascending))

pub from_ascending-threads-requires : goal.from_ascending-threads-requires
from_ascending-threads-requires c =
    rw (c.in_ok-threads.ensures, c.as_slice-3.ensures.items)
    (IsById-map thread_id own_id thread_id (λ t. refl) _ (IsById-filter thread_id _ _ c.as_slice-3.ensures.ascending))

pub returns : goal.returns
returns c =
    let g : Record = c.args.guild.now in
    let s : Standing = standing g c.args.me.now in
    let channels : c.guild.inside.channels ≡ g.channels = ap (λ (g : Record). g.channels) c.guild.view_is in
    let threads : c.guild.inside.threads ≡ g.threads = ap (λ (g : Record). g.threads) c.guild.view_is in
    let found : c.in_ok-sights.sights ≡ sights s =
    c.in_ok-sights.ensures ∙ (ap (λ u. seen_in u c.args.me.now.user.id c.as_slice.result.now) c.in_guild-standing.ensures
    ∙ ap (λ cs. seen_in s c.args.me.now.user.id cs) (c.as_slice.ensures.items ∙ channels)) in
    visible-parts g c.args.me.now
    c.from_ascending-channels.result c.from_ascending-threads.result
    (c.from_ascending-channels.ensures ∙ (c.in_ok-channels.ensures ∙ ap (map sight_id) (c.as_slice-2.ensures.items ∙ found)))
    (c.from_ascending-threads.ensures ∙ (c.in_ok-threads.ensures
    ∙ (ap (λ ls. map thread_id (filter (shows_among ls) c.as_slice-3.result.now)) found ∙ ap (λ ts. map thread_id (filter (shows_among (sights s)) ts)) (c.as_slice-3.ensures.items ∙ threads))))
