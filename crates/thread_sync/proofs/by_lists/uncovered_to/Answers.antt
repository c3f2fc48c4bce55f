use Rattle.std.proofs.Common.{◌≡◌, List, ap, subst, ◌∙◌}
use Rattle.std.specs.Prelude.{IfOk}
use Rattle.guild_model.specs.Record.{Record}
use Rattle.guild_model.specs.Sight.{Standing, standing}
use Rattle.thread_sync.specs.declared.channel_sight.ChannelSight.{ChannelSight}
use Rattle.thread_sync.specs.ChannelSights.{seen_in, sights, by_sights}
use Rattle.thread_sync.specs.Shown.{Shown}
use Rattle.thread_sync.specs.Seen.{by_lists}
use Rattle.thread_sync.specs.Sync.{list_sync}
use Rattle.thread_sync.proofs.Steps.{sights-sync}
use Rattle.thread_sync.proofs.by_lists.uncovered_to.Goals as goal

pub returns : goal.returns
returns c =
    let g : Record = c.args.guild.now in
    let s : Standing = standing g c.args.me.now in
    let before : Shown = by_lists c.args.was.now in
    let channels : c.guild.inside.channels ≡ g.channels = ap (λ (g : Record). g.channels) c.guild.view_is in
    let found : c.in_ok-now.now ≡ sights s =
    c.in_ok-now.ensures ∙ (ap (λ u. seen_in u c.args.me.now.user.id c.as_slice.result.now) c.in_guild-standing.ensures
    ∙ ap (λ cs. seen_in s c.args.me.now.user.id cs) (c.as_slice.ensures.items ∙ channels)) in
    subst (λ due. IfOk c.list_sync.result (λ told. told ≡ due))
    (ap (λ (ls : List ChannelSight). list_sync before (by_sights ls) g c.args.me.now.user.id) found ∙ sights-sync before g c.args.me.now)
    c.list_sync.ensures
