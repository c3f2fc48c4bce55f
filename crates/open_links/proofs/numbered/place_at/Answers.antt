use Rattle.std.proofs.Common.{arith, ◌∙◌, ap}
use Rattle.std.proofs.lemmas.List.{get_or_default}
use Rattle.open_links.specs.Links.{held_conn}
use Rattle.open_links.proofs.Listed.{lacks}
use Rattle.open_links.proofs.numbered.place_at.Goals as goal

pub returns-then-place-links : goal.returns-then-place-links
returns-then-place-links g c = lacks c.args.conn c.args.links.now _ c.requires c.place_of-place.ensures (λ d lt e. omega arith)

pub returns-else-link-conn : goal.returns-else-link-conn
returns-else-link-conn g c =
    lacks c.args.conn c.args.links.now _ c.requires c.place_of-place.ensures
    (λ d lt e.
    c.if-link-conn.false (ap held_conn c.link.view_is ∙ ap held_conn c.index-links-place.is ∙ ap held_conn (get_or_default c.args.links.now c.place_of-place.result c.index-links-place.result d lt) ∙ e))
