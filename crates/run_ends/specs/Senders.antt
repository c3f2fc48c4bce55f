-- What senders have sent whose passes have ended, and what was taken of them.
use Rattle.std.specs.Prelude.{◌≡◌, ◌≢◌, ℕ, ◌+◌, ◌==◌, List, [], ◌∷◌, map, All, IfSome, slice_get}
use Rattle.std.specs.List.{filter}
use Rattle.edit_apply.specs.declared.Edit.{Edit}
use Rattle.edit_post.specs.Post.{PostId, Sender, Taker, new_sender, after_end}
use Rattle.guild_posts.specs.Posts.{AreSent, post_of}
use Rattle.load_settle.specs.Passes.{IsTakenWhole}

-- the edits of a guild among these, in order
abbrev pub edits_for : ℕ → List (ℕ × Edit) → List Edit
edits_for guild edits = map (λ (e : ℕ × Edit). e.1) (filter (λ (e : ℕ × Edit). e.0 == guild) edits)

-- the passes of the sender of this number before it sends, one of each post in order
abbrev pub new_passes : List PostId → ℕ → List Sender
new_passes posts number = map (λ post. new_sender post number) posts

-- the sender of this number has sent these edits, those of each guild to its actor's post, and its passes have ended
pub record HasSent (posts : List PostId) (guilds : List ℕ) (number : ℕ) (edits : List (ℕ × Edit)) (passes : List Sender) : Type 0 where
  pub sent : List Sender
  pub are : AreSent guilds edits (new_passes posts number) sent
  pub ended : passes ≡ map after_end sent

abbrev pub HasMark : Sender → Type 0
HasMark s = s.mark ≢ 0

-- a pass of each post, in order, and each has ended
pub record HaveEnded (posts : List PostId) (passes : List Sender) : Type 0 where
  pub posts_are : map post_of passes ≡ posts
  pub ended : All HasMark passes

-- what was taken of each of these passes at its post is all that it sent
abbrev pub AreTakenWhole : List Taker → List Sender → Type 0
AreTakenWhole taken passes = (place : ℕ) → IfSome (slice_get passes place) (λ (s : Sender). IsTakenWhole taken (place, s))

-- sender by sender, the first of which has this number: each has sent its edits, and its passes have ended
abbrev pub HaveSent : List PostId → List ℕ → ℕ → List (List (ℕ × Edit)) → List (List Sender) → Type 0
HaveSent posts guilds number [] [] = Unit {0}
HaveSent posts guilds number [] (passes ∷ more) = ⊥
HaveSent posts guilds number (edits ∷ senders) [] = ⊥
HaveSent posts guilds number (edits ∷ senders) (passes ∷ more) = HasSent posts guilds number edits passes × HaveSent posts guilds (number + 1) senders more
