use Rattle.edit_post.specs.declared.request.Request.{Request}
use Rattle.edit_post.proofs.Merging.{merges}
use Rattle.edit_post.proofs.laws.taken_is_a_merge.Goals as goal

pub returns : goal.returns
returns c t low = merges (λ (r : Request). r.sender) t.senders t.taken low
