-- All that a run begins with.
use Rattle.std.specs.Prelude.{◌≡◌, ℕ, ◌+◌, ◌≤◌, List, ◌++◌, map, All, length}
use Rattle.std.specs.List.{AllZip}
use Rattle.edit_post.specs.Post.{PostId, Sender}
use Rattle.guild_hub.specs.Writes.{Publishing}
use Rattle.guild_places.specs.Places.{AreDistinct, guilds_of}
use Rattle.guild_posts.specs.Posts.{ArePasses}
use Rattle.session_core.specs.declared.bot.Bot.{Bot}
use Rattle.run_ends.specs.Lists.{woven}
use Rattle.run_stage.specs.Dealing.{AreFrom, dealt_to}
use Rattle.run_stage.specs.Hubs.{IsNewWriter, IsReaderOf}
use Rattle.serve_stage.specs.declared.lent.Lent.{Lent}
use Rattle.serve_stage.specs.declared.stage.Stage.{Stage}
use Rattle.serve_stage.specs.Parts.{IsActor, IsScript, IsWorker}

module _ {S D C : Type 0} where
  -- 1 to 12 files, 1 to 4 doors, and a clock for each door
  pub record AreLent (lent : Lent S D C) : Type 0 where
    pub files : (1 ≤ length lent.files.items) × (length lent.files.items ≤ 12)
    pub doors : (1 ≤ length lent.doors.items) × (length lent.doors.items ≤ 4)
    pub clocks : length lent.clocks.items ≡ length lent.doors.items

  -- how many senders each post has: the scripts and then the workers
  abbrev pub senders_of : Lent S D C → ℕ
  senders_of lent = length lent.files.items + length lent.doors.items

module _ {S D C R : Type 0} where
  -- the posts of the passes of the actors
  abbrev pub taker_posts : Stage S D C R → List PostId
  taker_posts stage = map (λ part. part.pass.post) stage.actors.items

  -- the passes of each script, then of each worker
  abbrev pub sender_passes : Stage S D C R → List (List Sender)
  sender_passes stage = map (λ part. part.passes.items) stage.scripts.items ++ map (λ part. part.passes.items) stage.workers.items

  pub record IsStage (port : ℕ) (bots : List Bot) (guilds : List ℕ) (lent : Lent S D C) (stage : Stage S D C R) : Type 0 where
    -- the writers of the hubs, in the order of the guilds
    pub writers : List (ℕ × Publishing)
    pub two_posts : length stage.posts ≡ 2
    pub new_writers : AllZip IsNewWriter guilds writers
    pub actors_are : AreFrom (IsActor stage.posts (senders_of lent) writers) 0 2 stage.actors.items
    pub scripts_are : AreFrom (IsScript stage.posts guilds lent.files.items) 0 (length lent.files.items) stage.scripts.items
    pub workers_are : AreFrom (IsWorker stage.posts (length lent.files.items) writers bots guilds port lent.doors.items lent.clocks.items) 0 (length lent.doors.items) stage.workers.items
    -- what follows of these
    pub takers_are : taker_posts stage ≡ stage.posts
    pub senders_are : All (ArePasses stage.posts) (sender_passes stage)
    pub readers_are : All (λ part. AllZip IsReaderOf writers part.readers.items) stage.workers.items
    pub woven_are : woven (dealt_to 0 writers) (dealt_to 1 writers) ≡ writers
    pub guilds_are : guilds_of writers ≡ guilds
    pub distinct : AreDistinct (guilds_of writers)
