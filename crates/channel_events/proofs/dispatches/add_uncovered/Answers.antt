use Rattle.std.proofs.Common.{◌≡◌, ◌++◌, true, false, List, Some, sym, ap, ◌∙◌}
use Rattle.intent_set.specs.Asks.{asks}
use Rattle.intent_set.specs.declared.kind.Kind.TheVariants as kind
use Rattle.dispatch_types.specs.declared.dispatch.Dispatch.{Dispatch}
use Rattle.thread_sync.specs.declared.channel_sight.ChannelSight.{ChannelSight}
use Rattle.thread_sync.specs.ChannelSights.{sight_of, by_sight}
use Rattle.thread_sync.specs.Sync.{list_sync}
use Rattle.event_views.specs.Served.{Served}
use Rattle.event_views.proofs.Syncs.{sync-told, none-told}
use Rattle.channel_events.specs.declared.ends.ChannelNote.{ChannelNote}
use Rattle.channel_events.specs.ByNote.{synced_by_note}
use Rattle.channel_events.proofs.dispatches.add_uncovered.Goals as goal

-- a sync that there is
pub returns-in_ok-push : goal.returns-in_ok-push
returns-in_ok-push c =
    let to : Served = c.args.to.now in
    let before : ChannelSight = c.in-Sight.before in
    let sync = λ (s : Served). list_sync (by_sight before) (by_sight (sight_of s.after s.me before.channel)) s.after s.me.user.id in
    let asked : asks to.viewer.intents kind.ThreadListSync false ≡ true = sym c.asks.ensures ∙ c.if-not-asks.false in
    let is : sync to ≡ Some c.in-Some.gains = ap sync (sym c.to.view_is) ∙ (sym c.in_ok-gains.ensures ∙ c.in-Some.is) in
    c.in_ok-push.ensures.items
    ∙ ap (λ (ds : List Dispatch). c.args.list.now.items ++ ds)
    (sym (ap (λ (note : ChannelNote). synced_by_note to.after to.viewer note to.me) c.in-Sight.is
    ∙ sync-told to.viewer (by_sight before) (by_sight (sight_of to.after to.me before.channel)) to.after to.me.user.id c.in-Some.gains asked is))

-- and none
pub returns-in_default-2 : goal.returns-in_default-2
returns-in_default-2 c =
    let to : Served = c.args.to.now in
    let before : ChannelSight = c.in-Sight.before in
    let sync = λ (s : Served). list_sync (by_sight before) (by_sight (sight_of s.after s.me before.channel)) s.after s.me.user.id in
    none-told to.viewer (sync to) c.args.list.now.items (ap sync (sym c.to.view_is) ∙ (sym c.in_ok-gains.ensures ∙ c.in_default-2.is))
    ∙ ap (λ (note : ChannelNote). c.args.list.now.items ++ synced_by_note to.after to.viewer note to.me) (sym c.in-Sight.is)
