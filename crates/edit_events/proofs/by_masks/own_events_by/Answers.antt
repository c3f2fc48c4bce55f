use Rattle.std.proofs.Common.{◌≡◌, Some, sym, subst}
use Rattle.dispatch_types.specs.Serves.{served}
use Rattle.event_views.specs.Served.{Served}
use Rattle.edit_events.proofs.ByMasks.{own-user, own-member}
use Rattle.edit_events.proofs.by_masks.own_events_by.Goals as goal

pub sights_by-requires-clause-stands : goal.sights_by-requires-clause-stands
sights_by-requires-clause-stands g c =
    let own = subst (g.M.MaskSource.stands_for c.args.masks.now c.args.to.now.after) (sym (own-user c.args.to.now.viewer c.args.to.now.after c.args.to.now.me c.requires.served)) c.requires.stands in
    subst (λ (to : Served). g.M.MaskSource.stands_for c.args.masks.now to.after to.me.user.id) (sym c.to.view_is) own

pub sights_by-requires-clause-mine : goal.sights_by-requires-clause-mine
sights_by-requires-clause-mine g c =
    let is = subst (λ (to : Served). served to.viewer to.after ≡ Some to.me) (sym c.to.view_is) c.requires.served in
    own-member c.to.inside.viewer.now c.to.inside.after.now c.to.inside.me.now is
