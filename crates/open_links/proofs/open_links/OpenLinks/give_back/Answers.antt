use Rattle.std.proofs.Common.{ap, ◌∙◌, map}
use Rattle.open_links.specs.Links.{as_returned, with_more}
use Rattle.open_links.proofs.Meeting.{all_back}
use Rattle.open_links.proofs.open_links.OpenLinks.give_back.Goals as goal

pub returns-clause-back : goal.returns-clause-back
returns-clause-back g c = λ es before m.
    all_back es c.args.self before _ _ m
    (c.give_all.ensures.returned ∙ ap (λ (h : _). with_more (g.D.Door.tale c.args.door.now).returned (map as_returned h.links)) c.self.view_is)
