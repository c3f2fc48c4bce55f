use Rattle.edit_post.specs.Post.{new_sender}
use Rattle.run_stage.proofs.Numbered.{from_zero}
use Rattle.run_stage.proofs.posts.open_post.Goals as goal

pub returns-clause-senders : goal.returns-clause-senders
returns-clause-senders g c =
    let made = c.in_ok-post.ensures.senders in
    from_zero (new_sender c.in_ok-post.post) c.args.senders c.in_ok-post.passes.items made.0 made.1
