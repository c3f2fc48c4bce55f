use Rattle.std.proofs.Common.{◌≡◌, false, sym, subst}
use Rattle.open_links.specs.Links.{no_held, has_conn, AreNumbered}
use Rattle.open_links.specs.Steps.{StandsAt}
use Rattle.open_links.specs.Calls.{EndsBy}
use Rattle.open_links.proofs.Listed.{removed_lacks}
use Rattle.open_links.proofs.Meeting.{numbered_removed}
use Rattle.open_links.proofs.Fields.{holding, ends}
use Rattle.open_links.proofs.open_links.OpenLinks.end.Goals as goal

pub invariant_of-self : goal.invariant_of-self
invariant_of-self g c =
    subst (λ xs. AreNumbered xs c.self.inside.count) (sym c.give_at.ensures.items)
    (numbered_removed c.self.inside.links.items c.in-Some.place c.self.inside.count c.self.invariant)

pub returns-in-Some-clause-ends : goal.returns-in-Some-clause-ends
returns-in-Some-clause-ends g c =
    let links = c.self.inside.links.items in
    let stands : StandsAt c.in-Some.place c.args.conn links = subst (λ xs. StandsAt c.in-Some.place c.args.conn xs) c.as_slice.ensures.value c.in-Some.ensures in
    subst (λ xs. EndsBy c.args.conn c.args.self.now (g.D.Door.tale c.args.door.now).returned (holding xs c.self.inside.count) (g.D.Door.tale c.give_at.new.door).returned) (sym c.give_at.ensures.items)
    (ends c.args.conn c.args.self.now links c.self.inside.count c.in-Some.place no_held _ _ c.self.view_is stands (c.give_at.ensures.returned no_held))

pub returns-in-Some-clause-gone : goal.returns-in-Some-clause-gone
returns-in-Some-clause-gone g c =
    let links = c.self.inside.links.items in
    let stands : StandsAt c.in-Some.place c.args.conn links = subst (λ xs. StandsAt c.in-Some.place c.args.conn xs) c.as_slice.ensures.value c.in-Some.ensures in
    subst (λ xs. has_conn c.args.conn xs ≡ false) (sym c.give_at.ensures.items) (removed_lacks links c.in-Some.place c.args.conn c.self.invariant.ascend stands)
