use Rattle.std.proofs.Common.{ap, sym, ◌∙◌, []}
use Rattle.std.proofs.lemmas.List.{get_or_default}
use Rattle.open_links.specs.Links.{held_conn}
use Rattle.open_links.specs.Steps.{StandsAt}
use Rattle.open_links.proofs.Listed.{follows_at, hears_at, at_err}
use Rattle.open_links.proofs.numbered.ask_at.Goals as goal
use Rattle.open_links.proofs.numbered.ask_at.Goals.{After-ask}

stands : (g : _) (c : After-ask g) → StandsAt c.args.place c.link.inside.conn c.args.links.now.items
stands g c = record {
  within = c.requires.within;
  numbered = λ d.
      ap held_conn (get_or_default c.args.links.now.items c.args.place d c.index_mut-link.result.now c.requires.within)
      ∙ sym (ap held_conn c.index_mut-link.ensures.value) ∙ sym (ap held_conn c.link.view_is);
}

pub returns-in_err-word-clause-err : goal.returns-in_err-word-clause-err
returns-in_err-word-clause-err g c =
    at_err c.from_residual.result
    (follows_at c.args.links.now.items c.args.place c.link.inside.conn c.index_mut-link.result.now c.ask.new.self [] c.requires.ascend
    (stands g (goal.at.returns-in_err-word-clause-err g c).After-ask) c.index_mut-link.ensures.value c.in_err-word.ensures.err)

pub returns-clause-ok : goal.returns-clause-ok
returns-clause-ok g c =
    let s = stands g (goal.at.returns-clause-ok g c).After-ask in record {
      stands = s;
      hears = hears_at c.args.links.now.items c.args.place c.link.inside.conn c.index_mut-link.result.now c.ask.new.self c.in_ok-word.word c.requires.ascend s c.index_mut-link.ensures.value c.in_ok-word.ensures.ok;
    }
