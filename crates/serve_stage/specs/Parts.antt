-- The parts of a run before they run.
use Rattle.std.specs.Prelude.{◌≡◌, ℕ, ◌+◌, List, map}
use Rattle.edit_post.specs.Post.{PostId}
use Rattle.guild_hub.specs.Writes.{Publishing}
use Rattle.session_core.specs.declared.bot.Bot.{Bot}
use Rattle.thread_outside.specs.declared.quiet_notes.QuietNotes.{QuietNotes}
use Rattle.world_law.specs.Model.{first_worker}
use Rattle.worker_core.specs.Represents.{Represents}
use Rattle.gate_parts.specs.declared.actor_part.ActorPart.{ActorPart}
use Rattle.gate_parts.specs.declared.worker_part.WorkerPart.{WorkerPart}
use Rattle.run_ends.specs.Senders.{new_passes}
use Rattle.run_stage.specs.Dealing.{dealt_to, IsAt}
use Rattle.run_stage.specs.Hubs.{new_reader}
use Rattle.run_stage.specs.Posts.{IsTakerOf}
use Rattle.serve_heads.specs.declared.script_file.ScriptFile.{ScriptFile}
use Rattle.serve_parts.specs.declared.file_part.FilePart.{FilePart}
use Rattle.serve_stage.specs.Urls.{worker_url}

-- the part of a worker that keeps no notes
abbrev pub Served : Type 0 → Type 0 → Type 0 → Type 0
Served D C R = WorkerPart D C QuietNotes R

-- the file that a script's part reads
abbrev pub file_of : {S R : Type 0} → FilePart S R → ScriptFile S
file_of part = record { source = part.source; script = part.script }

module _ {R : Type 0} (posts : List PostId) where
  -- the actor with this number has the post at that place, which has so many senders, and the writers that are dealt to it
  pub record IsActor (senders : ℕ) (writers : List (ℕ × Publishing)) (actor : ℕ) (part : ActorPart R) : Type 0 where
    pub posts_are : part.posts ≡ posts
    pub place_is : part.place ≡ actor
    pub pass_is : IsTakerOf senders posts actor part.pass
    pub writers_are : part.writers.items ≡ dealt_to actor writers

  -- the script with this number has the file at that place, and sends by the passes of the sender with that number
  pub record IsScript {S : Type 0} (guilds : List ℕ) (files : List (ScriptFile S)) (number : ℕ) (part : FilePart S R) : Type 0 where
    pub posts_are : part.posts ≡ posts
    pub passes_are : part.passes.items ≡ new_passes posts number
    pub index_is : part.index.keys ≡ guilds
    pub file_is : IsAt files number (file_of part)

  -- the worker with this number is a new worker of all bots and guilds, has a reader of each writer's hub, the door and the clock at that place, and the passes of the sender after so many scripts and those workers
  pub record IsWorker {D C : Type 0} (scripts : ℕ) (writers : List (ℕ × Publishing)) (bots : List Bot) (guilds : List ℕ) (port : ℕ) (doors : List D) (clocks : List C) (number : ℕ) (part : Served D C R) : Type 0 where
    pub posts_are : part.posts ≡ posts
    pub passes_are : part.passes.items ≡ new_passes posts (scripts + number)
    pub readers_are : part.readers.items ≡ map new_reader writers
    pub worker_is : Represents part.worker (first_worker bots guilds number (worker_url port number))
    pub door_is : IsAt doors number part.door
    pub clock_is : IsAt clocks number part.clock
