use Rattle.std.proofs.Common.{◌≡◌}
use Rattle.collections.proofs.Edits.{changed_front}
use Rattle.edit_post.specs.Post.{after_end}
use Rattle.guild_posts.proofs.end_all.Given as goal

abbrev pub invariant-loop-place : goal.invariant-loop-place
invariant-loop-place g l = l.pass-items ≡ changed_front after_end l.place l.fn.passes.items
