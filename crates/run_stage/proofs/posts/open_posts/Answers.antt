use Rattle.run_stage.proofs.Posted.{has_posts}
use Rattle.run_stage.proofs.posts.open_posts.Goals as goal

pub returns : goal.returns
returns g c =
    has_posts c.args.senders c.in_ok-post.post c.in_ok-other_post.other_post c.in_ok-posts.posts.items (c.in_ok-post.first, c.in_ok-other_post.second)
    c.in_ok-post.its_passes.items c.in_ok-other_post.other_passes.items c.in_ok-passes.passes.items
    c.in_ok-posts.ensures c.in_ok-post.ensures.taker c.in_ok-other_post.ensures.taker c.in_ok-post.ensures.senders c.in_ok-other_post.ensures.senders c.in_ok-passes.ensures
