-- What a part has to be before it runs.
use Rattle.std.specs.Prelude.{◌≡◌, ℕ, ◌<◌, List, [], ◌∷◌, false, Some, All, slice_get, length}
use Rattle.std.specs.Coded.{×_prop, Unit-prop}
use Rattle.std.proofs.Props.{props}
use mathlib.Core.Bool.{Bool-set}
use Rattle.edit_post.specs.Post.{PostId, Sender, Taker}
use Rattle.guild_actor.specs.Acts.{AreNew}
use Rattle.guild_hub.specs.Sights.{Seeing}
use Rattle.guild_hub.specs.Writes.{Publishing}
use Rattle.guild_places.specs.Places.{AreDistinct, guilds_of, has_guild}
use Rattle.guild_posts.specs.Posts.{ArePasses}
use Rattle.worker_run.specs.Hubs.{IsReader}

-- The pass is that of the post at this place, and has taken nothing. The logs are new, and of distinct guilds.
pub record CanAct (posts : List PostId) (place : ℕ) (pass : Taker) (writers : List (ℕ × Publishing)) : Type 0 where
  pub post : slice_get posts place ≡ Some pass.post
  pub taken : pass.taken ≡ []
  pub distinct : AreDistinct (guilds_of writers)
  pub new : AreNew writers

-- There are posts, and of each a pass that has not ended.
pub record CanSend (posts : List PostId) (passes : List Sender) : Type 0 where
  pub some : 0 < length posts
  pub passes_are : ArePasses posts passes

-- The same, and the readers are of distinct guilds, each of its guild's hub.
pub record CanWork (posts : List PostId) (passes : List Sender) (readers : List (ℕ × Seeing)) : Type 0 where
  pub some : 0 < length posts
  pub passes_are : ArePasses posts passes
  pub readers_are : All IsReader readers
  pub distinct : AreDistinct (guilds_of readers)

-- Each of these facts has one proof at most.
AreDistinct-prop : (gs : List ℕ) → IsProp (AreDistinct gs)
AreDistinct-prop [] = Unit-prop
AreDistinct-prop (g ∷ gs) = ×_prop (Bool-set (has_guild g gs) false) (AreDistinct-prop gs)

pub CanAct-prop : (posts : List PostId) (place : ℕ) (pass : Taker) (writers : List (ℕ × Publishing)) → IsProp (CanAct posts place pass writers)
CanAct-prop posts place pass writers = Prim.hlevel (props, AreDistinct-prop)

pub CanSend-prop : (posts : List PostId) (passes : List Sender) → IsProp (CanSend posts passes)
CanSend-prop posts passes = Prim.hlevel props

pub CanWork-prop : (posts : List PostId) (passes : List Sender) (readers : List (ℕ × Seeing)) → IsProp (CanWork posts passes readers)
CanWork-prop posts passes readers = Prim.hlevel (props, AreDistinct-prop)
