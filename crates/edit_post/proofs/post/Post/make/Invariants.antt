use Rattle.std.proofs.Common.{◌≡◌, ℕ, ◌<◌, length, Some}
use Rattle.std.specs.Prelude.{slice_get}
use Rattle.edit_post.specs.Post.{new_sender, new_taker}
use Rattle.edit_post.proofs.post.Post.make.Given as goal

abbrev pub invariant-loop-sender : goal.invariant-loop-sender
invariant-loop-sender g l = record {
  taker : l.taker ≡ new_taker l.post l.sender;
  many : length l.passes.items ≡ l.sender;
  passes : (p : ℕ) → p < l.sender → slice_get l.passes.items p ≡ Some (new_sender l.post p);
}
