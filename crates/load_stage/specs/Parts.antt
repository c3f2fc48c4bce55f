-- The parts of a load before they run.
use Rattle.std.specs.Prelude.{◌≡◌, ℕ, ◌+◌, List, [], map}
use Rattle.atomic_table.specs.Seated.{TableId}
use Rattle.std.specs.Global.{Global}
use Rattle.crossbeam_queue.specs.SegTies.{SegId}
use Rattle.edit_post.specs.Post.{PostId}
use Rattle.guild_hub.specs.Writes.{Publishing}
use Rattle.stop_flag.specs.Flags.{new_seat}
use Rattle.thread_outside.specs.DialledDoors.{DialledState}
use Rattle.thread_outside.specs.declared.kept_notes.KeptNotes.{KeptNotes}
use Rattle.world_law.specs.Model.{first_worker}
use Rattle.worker_core.specs.Represents.{Represents}
use Rattle.worker_core.specs.declared.io.Input.{Input}
use Rattle.gate_parts.specs.declared.actor_part.ActorPart.{ActorPart}
use Rattle.gate_parts.specs.declared.script_part.ScriptPart.{ScriptPart}
use Rattle.gate_parts.specs.declared.worker_part.WorkerPart.{WorkerPart}
use Rattle.load_maker.specs.Script.{script}
use Rattle.run_ends.specs.Senders.{new_passes}
use Rattle.run_stage.specs.Dealing.{dealt_to, IsAt}
use Rattle.run_stage.specs.Hubs.{new_reader}
use Rattle.run_stage.specs.Posts.{IsTakerOf}
use Rattle.load_stage.specs.Bots.{load_bots, worker_url}
use Rattle.load_stage.specs.Doors.{IsDoorOf}
use Rattle.load_stage.specs.Guilds.{guild_ids}

module _ {R : Type 0} (posts : List PostId) (flag : TableId) where
  -- the actor with this number has the post at that place, which has seven senders, and the writers that are dealt to it
  pub record IsActor (writers : List (ℕ × Publishing)) (actor : ℕ) (part : ActorPart R) : Type 0 where
    pub posts_are : part.posts ≡ posts
    pub place_is : part.place ≡ actor
    pub pass_is : IsTakerOf 7 posts actor part.pass
    pub writers_are : part.writers.items ≡ dealt_to actor writers
    pub seat_is : part.seat ≡ new_seat flag actor

  -- the script with this number sends the lines of the part of the load with that number
  pub record IsScript (seed number : ℕ) (part : ScriptPart R) : Type 0 where
    pub posts_are : part.posts ≡ posts
    pub passes_are : part.passes.items ≡ new_passes posts number
    pub index_is : part.index.keys ≡ guild_ids
    pub lines_are : part.lines.items ≡ script seed number
    pub seat_is : part.seat ≡ new_seat flag (2 + number)

  -- the worker with this number has a reader of each writer's hub, is a new worker of all bots and guilds, and has a door and a clock of its own
  pub record IsWorker {C : Type 0} (writers : List (ℕ × Publishing)) (queues : List (SegId Global)) (clocks : List C) (number : ℕ) (part : WorkerPart DialledState C (KeptNotes Input) R) : Type 0 where
    pub posts_are : part.posts ≡ posts
    pub passes_are : part.passes.items ≡ new_passes posts (4 + number)
    pub readers_are : part.readers.items ≡ map new_reader writers
    pub worker_is : Represents part.worker (first_worker load_bots guild_ids number (worker_url number))
    pub door_is : IsDoorOf queues number part.door
    pub clock_is : IsAt clocks number part.clock
    pub notes_are : part.notes.notes.items ≡ []
    pub seat_is : part.seat ≡ new_seat flag (6 + number)
