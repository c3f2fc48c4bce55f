-- The posts of two actors and the passes at them.
use Rattle.std.specs.Prelude.{◌≡◌, ℕ, List, Some, option_map, slice_get, length}
use Rattle.std.specs.Global.{Vec}
use Rattle.edit_post.specs.Post.{PostId, Sender, Taker, new_taker}
use Rattle.run_ends.specs.Senders.{new_passes}
use Rattle.run_stage.specs.Dealing.{AreFrom}

-- the pass of the actor with this number, at its post, which has so many senders
abbrev pub IsTakerOf : ℕ → List PostId → ℕ → Taker → Type 0
IsTakerOf senders posts actor pass = option_map (λ post. new_taker post senders) (slice_get posts actor) ≡ Some pass

-- the passes of the sender with this number, one at each post, which have sent nothing
abbrev pub ArePassesOf : List PostId → ℕ → Vec Sender → Type 0
ArePassesOf posts sender passes = passes.items ≡ new_passes posts sender

-- the passes of two actors and of so many senders at two posts
pub record HasPosts (senders : ℕ) (posts : List PostId) (takers : Taker × Taker) (passes : List (Vec Sender)) : Type 0 where
  pub two : length posts ≡ 2
  pub first_is : IsTakerOf senders posts 0 takers.0
  pub second_is : IsTakerOf senders posts 1 takers.1
  pub passes_are : AreFrom (ArePassesOf posts) 0 senders passes
