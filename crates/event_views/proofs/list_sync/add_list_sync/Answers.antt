use Rattle.std.proofs.Common.{◌≡◌, ◌++◌, true, false, List, Some, sym, ap, ◌∙◌}
use Rattle.intent_set.specs.Asks.{asks}
use Rattle.intent_set.specs.declared.kind.Kind.TheVariants as kind
use Rattle.dispatch_types.specs.declared.dispatch.Dispatch.{Dispatch}
use Rattle.thread_sync.specs.Shown.{shown_to}
use Rattle.thread_sync.specs.ChannelSights.{by_sights}
use Rattle.thread_sync.specs.Sync.{uncovered_to}
use Rattle.event_views.proofs.Syncs.{sync-told, none-told}
use Rattle.event_views.proofs.list_sync.add_list_sync.Goals as goal

-- a sync that there is
pub returns-in_ok-push : goal.returns-in_ok-push
returns-in_ok-push c =
    let to = c.args.to.now in
    let before = by_sights c.args.before.now in
    let asked : asks to.viewer.intents kind.ThreadListSync false ≡ true = sym c.asks.ensures ∙ c.if-not-asks.false in
    let is : uncovered_to before to.after to.me ≡ Some c.in-Some.gains = sym c.in_ok-gains.ensures ∙ c.in-Some.is in
    c.in_ok-push.ensures.items
    ∙ ap (λ (ds : List Dispatch). c.args.list.now.items ++ ds) (sym (sync-told to.viewer before (shown_to to.after to.me) to.after to.me.user.id c.in-Some.gains asked is))

-- and none
pub returns-in_default : goal.returns-in_default
returns-in_default c = none-told c.args.to.now.viewer _ c.args.list.now.items (sym c.in_ok-gains.ensures ∙ c.in_default.is)
