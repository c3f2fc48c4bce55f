use Rattle.std.proofs.Common.{◌≡◌, subst}
use Rattle.std.specs.Prelude.{IfOk}
use Rattle.thread_sync.specs.ChannelSights.{by_sights}
use Rattle.thread_sync.specs.Sync.{uncovered_to}
use Rattle.event_views.specs.Served.{Served}
use Rattle.event_views.proofs.list_sync.uncovered.Goals as goal

pub returns-in-Some : goal.returns-in-Some
returns-in-Some c =
    subst (λ (s : Served). IfOk c.uncovered_between.result (λ told. told ≡ uncovered_to (by_sights c.args.before.now) s.after s.me)) c.to.view_is c.uncovered_between.ensures

pub returns-in-None : goal.returns-in-None
returns-in-None c =
    subst (λ (s : Served). IfOk c.uncovered_by_sights.result (λ told. told ≡ uncovered_to (by_sights c.args.before.now) s.after s.me)) c.to.view_is c.uncovered_by_sights.ensures
