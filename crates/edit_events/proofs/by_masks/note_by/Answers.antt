use Rattle.std.proofs.Common.{sym, subst}
use Rattle.edit_events.proofs.ByMasks.{own-user, own-member}
use Rattle.edit_events.proofs.by_masks.note_by.Goals as goal

pub note_by-requires-clause-stands : goal.note_by-requires-clause-stands
note_by-requires-clause-stands g c =
    subst (g.M.MaskSource.stands_for c.args.masks.now c.args.before.now) (sym (own-user c.args.viewer.now c.args.before.now c.in-Some.me.now (sym c.in-Some.ensures))) c.requires

pub note_by-requires-clause-mine : goal.note_by-requires-clause-mine
note_by-requires-clause-mine g c = own-member c.args.viewer.now c.args.before.now c.in-Some.me.now (sym c.in-Some.ensures)
