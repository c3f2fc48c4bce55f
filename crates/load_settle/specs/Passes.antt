-- What the passes of some posts are before they are settled, and after it.
use Rattle.std.specs.Prelude.{◌≡◌, ◌≢◌, ℕ, List, map, Some, All, IsSomeAnd, slice_get}
use Rattle.edit_post.specs.Requests.{requests_of}
use Rattle.edit_post.specs.Post.{PostId, Sender, Taker, HasEnded}

-- the take passes are those of the posts, in order, and each post has ended
pub record AreTakers (posts : List PostId) (taken : List Taker) : Type 0 where
  pub posts_are : map (λ (t : Taker). t.post) taken ≡ posts
  pub ended : All HasEnded taken

-- a send pass that has ended, beside the place of its post
abbrev pub HasEndedAt : List PostId → ℕ × Sender → Type 0
HasEndedAt posts s = (slice_get posts s.0 ≡ Some s.1.post) × (s.1.mark ≢ 0)

-- what was taken of the sender at its post is all that it sent
abbrev pub IsTakenWhole : List Taker → ℕ × Sender → Type 0
IsTakenWhole taken s = IsSomeAnd (slice_get taken s.0) (λ t. requests_of s.1.sender t.taken ≡ s.1.sent)
