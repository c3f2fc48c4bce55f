-- All that a load begins with.
use Rattle.std.specs.Prelude.{◌≡◌, ℕ, List, [], ◌∷◌, ◌++◌, map, All, length}
use Rattle.std.specs.List.{range_with_len, AllZip}
use Rattle.std.specs.Global.{Global}
use Rattle.crossbeam_queue.specs.SegTies.{SegId}
use Rattle.edit_post.specs.Post.{PostId, Sender}
use Rattle.guild_hub.specs.Writes.{Publishing}
use Rattle.guild_places.specs.Places.{AreDistinct, guilds_of}
use Rattle.guild_posts.specs.Posts.{ArePasses}
use Rattle.stop_flag.specs.Flags.{SeatState, new_seat, new_keeper}
use Rattle.run_ends.specs.Lists.{woven}
use Rattle.run_stage.specs.Dealing.{AreFrom, dealt_to}
use Rattle.run_stage.specs.Hubs.{IsNewWriter, IsReaderOf}
use Rattle.load_stage.specs.declared.stage.Stage.{Stage}
use Rattle.load_stage.specs.Clients.{IsClient}
use Rattle.load_stage.specs.Guilds.{guild_ids}
use Rattle.load_stage.specs.Parts.{IsActor, IsScript, IsWorker}

module _ {C R : Type 0} where
  -- the posts of the passes of the actors
  abbrev pub taker_posts : Stage C R → List PostId
  taker_posts stage = map (λ part. part.pass.post) stage.actors.items

  -- the passes of each script, then of each worker
  abbrev pub sender_passes : Stage C R → List (List Sender)
  sender_passes stage = map (λ part. part.passes.items) stage.scripts.items ++ map (λ part. part.passes.items) stage.workers.items

  -- the seats of all parts, and that of who starts them
  abbrev pub seats_of : Stage C R → List SeatState
  seats_of stage =
      map (λ part. part.seat) stage.actors.items
      ++ (map (λ part. part.seat) stage.scripts.items
      ++ (map (λ part. part.seat) stage.workers.items
      ++ (map (λ part. part.client.seat) stage.clients.items ++ stage.seat ∷ [])))

  pub record IsStage (seed : ℕ) (clocks : List C) (stage : Stage C R) : Type 0 where
    -- the writers of the hubs, in the order of the guilds, and the queues of the doors, by their workers
    pub writers : List (ℕ × Publishing)
    pub queues : List (SegId Global)
    pub two_posts : length stage.posts ≡ 2
    pub new_writers : AllZip IsNewWriter guild_ids writers
    pub three_doors : length queues ≡ 3
    pub keeper_is : stage.keeper ≡ new_keeper stage.keeper.flag 22
    pub seat_is : stage.seat ≡ new_seat stage.keeper.flag 21
    pub actors_are : AreFrom (IsActor stage.posts stage.keeper.flag writers) 0 2 stage.actors.items
    pub scripts_are : AreFrom (IsScript stage.posts stage.keeper.flag seed) 0 4 stage.scripts.items
    pub workers_are : AreFrom (IsWorker stage.posts stage.keeper.flag writers queues clocks) 0 3 stage.workers.items
    pub clients_are : AreFrom (IsClient stage.keeper.flag queues clocks) 0 12 stage.clients.items
    -- what follows of these
    pub takers_are : taker_posts stage ≡ stage.posts
    pub senders_are : All (ArePasses stage.posts) (sender_passes stage)
    pub readers_are : All (λ part. AllZip IsReaderOf writers part.readers.items) stage.workers.items
    pub woven_are : woven (dealt_to 0 writers) (dealt_to 1 writers) ≡ writers
    pub guilds_are : guilds_of writers ≡ guild_ids
    pub distinct : AreDistinct (guilds_of writers)
    pub seats_are : seats_of stage ≡ map (new_seat stage.keeper.flag) (range_with_len 0 22)
