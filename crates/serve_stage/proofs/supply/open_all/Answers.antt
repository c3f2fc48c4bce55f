use Rattle.std.proofs.Common.{◌≡◌, ◌+◌, ap, ◌∙◌}
use Rattle.run_stage.specs.Seats.{IsSeatOf}
use Rattle.run_stage.proofs.Numbered.{as_many}
use Rattle.serve_stage.proofs.supply.open_all.Goals as goal

pub returns : goal.returns
returns g c =
    let posts = c.into_parts-posts.ensures in
    let hubs = c.into_parts-writers.ensures in
    let shared : c.in_ok-ground.ground.posts ≡ c.in_ok-opened.opened.posts.items = c.in_ok-ground.ensures ∙ ap (λ v. v.items) posts.0 in
    let seats = c.in_ok-seats.seats in
    record {
      posts_are = rw (shared, posts.1, posts.2) c.in_ok-opened.ensures;
      hubs_are = rw (hubs.0, hubs.1) c.in_ok-hubs.ensures;
      seats_are = as_many (IsSeatOf seats.keeper.flag) 0 (c.args.counts.scripts + c.args.counts.workers + 3) seats.left.items c.in_ok-seats.ensures.left_are;
    }
