use Rattle.std.proofs.Common.{◌≡◌, ap, ◌∙◌}
use Rattle.load_stage.proofs.supply.open_all.Goals as goal

pub returns : goal.returns
returns g c =
    let posts = c.into_parts-posts.ensures in
    let hubs = c.into_parts-writers.ensures in
    let shared : c.in_ok-ground.ground.posts ≡ c.in_ok-opened.opened.posts.items = c.in_ok-ground.ensures ∙ ap (λ v. v.items) posts.0 in
    record {
      posts_are = rw (shared, posts.1, posts.2) c.in_ok-opened.ensures;
      hubs_are = rw (hubs.0, hubs.1) c.in_ok-hubs.ensures;
      doors_are = c.in_ok-doors.ensures;
    }
