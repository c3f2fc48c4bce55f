use Rattle.std.proofs.Common.{ap, sym, ◌∙◌}
use Rattle.open_links.specs.Links.{Held, held_conn}
use Rattle.open_links.proofs.Listed.{done_at}
use Rattle.open_links.proofs.numbered.first_done_of.Goals as goal

pub returns-then-link : goal.returns-then-link
returns-then-link g c =
    let x = c.link-item.result in
    done_at c.args.links.now c.loop-link.link-index c.link.inside.conn x c.requires c.loop-link-test.true
    (ap held_conn (sym c.link-item.is) ∙ sym (ap held_conn c.link.view_is))
    (ap (λ (l : Held). l.done) (sym c.link-item.is) ∙ sym (ap (λ (l : Held). l.done) c.link.view_is) ∙ c.if-link.true)
