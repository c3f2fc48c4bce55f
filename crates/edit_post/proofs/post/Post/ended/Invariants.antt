use Rattle.std.proofs.Common.{◌≡◌, ◌≢◌, ℕ, ◌<◌, ◌≤◌, ◌+◌, ◌++◌, true, length, get_or}
use mathlib.Core.Logic.{◌↔◌}
use Rattle.edit_post.specs.Requests.{requests_of}
use Rattle.edit_post.specs.Post.{looked, NotStored}
use Rattle.edit_post.proofs.post.Post.ended.Given as goal

abbrev pub invariant-loop-sender : goal.invariant-loop-sender
invariant-loop-sender g l = record {
  post : l.pass.post ≡ l.fn.pass.post;
  senders : l.pass.senders ≡ l.fn.pass.senders;
  taken : l.pass.taken ≡ l.fn.pass.taken;
  empty_takes : l.pass.empty_takes ≡ l.fn.pass.empty_takes;
  kept : (p : ℕ) → get_or l.fn.pass.found p 0 ≢ 0 → get_or l.pass.found p 0 ≡ get_or l.fn.pass.found p 0;
  later : (p : ℕ) → l.sender ≤ p → get_or l.pass.found p 0 ≡ get_or l.fn.pass.found p 0;
  looks : l.pass.looks ≡ l.fn.pass.looks ++ looked l.sender l.fn.pass.found l.pass.found;
  unstored : (p : ℕ) → p < l.sender → get_or l.pass.found p 0 ≡ 0 → NotStored p (l.fn.pass.looks ++ looked (p + 1) l.fn.pass.found l.pass.found);
  ended : (l.all ≡ true) ↔ ((p : ℕ) → p < l.sender → get_or l.pass.found p 0 ≡ length (requests_of p l.pass.taken) + 1);
}
