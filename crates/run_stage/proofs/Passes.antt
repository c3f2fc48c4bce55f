-- New passes are ready.
use Rattle.std.proofs.Common.{◌≡◌, ℕ, List, [], ◌∷◌, map, refl, sym, ap, subst}
use Rattle.std.proofs.lemmas.List.Elements.{All-map}
use Rattle.edit_post.specs.Post.{PostId, Sender, new_sender}
use Rattle.guild_posts.specs.Posts.{ArePasses, IsUnended, post_of}
use Rattle.run_ends.specs.Senders.{new_passes}

pub same_posts : (posts : List PostId) (sender : ℕ) → map post_of (new_passes posts sender) ≡ posts
same_posts [] sender = refl
same_posts (p ∷ ps) sender = ap (λ l. p ∷ l) (same_posts ps sender)

-- new passes are passes of their posts
pub are_passes : (posts : List PostId) (sender : ℕ) (passes : List Sender) → passes ≡ new_passes posts sender → ArePasses posts passes
are_passes posts sender passes e =
    subst (ArePasses posts) (sym e) (record {
      posts_are = same_posts posts sender;
      unended = All-map IsUnended (λ post. new_sender post sender) posts (λ k d lt. refl);
    })
