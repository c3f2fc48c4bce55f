use Rattle.std.proofs.Common.{◌≡◌, ap, sym, ◌∙◌, map, []}
use Rattle.std.specs.Vec.Iter.{into_iter_items}
use Rattle.open_links.specs.Links.{as_returned, with_more}
use Rattle.open_links.proofs.Listed.{is_empty}
use Rattle.open_links.proofs.Meeting.{with_none}
use Rattle.open_links.proofs.numbered.give_all.Goals as goal

pub returns-clause-returned : goal.returns-clause-returned
returns-clause-returned g c =
    let tale = (g.D.Door.tale c.loop-link.door).returned in
    let first = (g.D.Door.tale c.args.door.now).returned in
    let none : into_iter_items c.loop-link.link-iterator ≡ [] = is_empty _ (sym c.loop-link.invariant.3 ∙ c.in-None.ensures.steps.0) in
    sym (ap (λ ls. with_more tale (map as_returned ls)) none ∙ with_none tale)
    ∙ c.loop-link.invariant.0
    ∙ ap (λ ls. with_more first (map as_returned ls)) c.into_iter-link-iterator.ensures.into_iter_gives.0
