use Rattle.std.proofs.Common.{◌≡◌, ◌++◌, ◌∷◌, [], ◌+◌, false, refl, sym, ap, ◌∙◌, subst}
use Rattle.gate_outside.specs.Links.{IsNewLink}
use Rattle.open_links.specs.Links.{Held, Holding, AreNumbered}
use Rattle.open_links.proofs.Meeting.{numbered_push}
use Rattle.open_links.proofs.Fields.{opens}
use Rattle.open_links.proofs.open_links.OpenLinks.accept.Goals as goal
use Rattle.open_links.proofs.open_links.OpenLinks.accept.Goals.{After-add}

newest : (g : _) → After-add g → Held
newest g c = record { conn = c.self.inside.count; tale = g.L.Link.tale c.in-Link.wire; faults = g.L.Link.faults c.in-Link.wire; done = false }

added : (g : _) (c : After-add g) → c.add.new.links.items ≡ c.self.inside.links.items ++ newest g c ∷ []
unfolding newest
added g c = c.add.ensures ∙ ap (λ ls. ls ++ newest g c ∷ []) c.in_ok-reserve.ensures.items

pub invariant_of-self-in-Link : goal.invariant_of-self-in-Link
unfolding newest
invariant_of-self-in-Link g c =
    let d = (goal.at.invariant_of-self-in-Link g c).After-add in
    subst (λ ls. AreNumbered ls (c.self.inside.count + 1)) (sym (added g d))
    (numbered_push c.self.inside.links.items (newest g d) c.self.inside.count refl c.self.invariant)

pub returns-in-Link-clause-admits : goal.returns-in-Link-clause-admits
unfolding newest
returns-in-Link-clause-admits g c =
    let d = (goal.at.returns-in-Link-clause-admits g c).After-add in
    let count = ap (λ (h : Holding). h.count) c.self.view_is in
    let new : IsNewLink (g.L.Link.tale c.in-Link.wire) (g.L.Link.faults c.in-Link.wire) = rw c.in-Link.is at c.in_ok-wire.ensures.new_link in
    (count, (ap (λ n. n + 1) count, opens c.args.self.now c.self.inside.links.items c.add.new.links.items c.self.inside.count (newest g d) c.self.view_is c.self.invariant (added g d) refl new refl))
