-- internal: cited by private functions only. The parts of a run that have nothing yet of what a house lends.
use Rattle.std.specs.Prelude.{◌≡◌, ℕ, ◌+◌, List, drop, length}
use Rattle.std.specs.Global.{Vec}
use Rattle.edit_post.specs.Post.{PostId, Sender, Taker}
use Rattle.guild_hub.specs.Sights.{Seeing}
use Rattle.guild_hub.specs.Writes.{Publishing}
use Rattle.guild_places.specs.Places.{AreDistinct}
use Rattle.session_core.specs.declared.bot.Bot.{Bot}
use Rattle.world_law.specs.Model.{first_worker}
use Rattle.worker_core.specs.Represents.{Represents}
use Rattle.gate_parts.specs.Ready.{CanSend, CanWork}
use Rattle.run_stage.specs.Dealing.{AreFrom, IsAt}
use Rattle.run_stage.specs.Hubs.{HasHubs}
use Rattle.run_stage.specs.Posts.{ArePassesOf, HasPosts, IsTakerOf}
use Rattle.serve_heads.specs.declared.script_file.ScriptFile.{ScriptFile}
use Rattle.serve_parts.specs.declared.file_part.FilePart.{FilePart}
use Rattle.serve_stage.specs.declared.drafting.Draft.{Draft}
use Rattle.serve_stage.specs.declared.drafting.Parts.{Parts}
use Rattle.serve_stage.specs.declared.scripts.ScriptDraft.{ScriptDraft}
use Rattle.serve_stage.specs.declared.supply.ActorSupply.{ActorSupply}
use Rattle.serve_stage.specs.declared.supply.Supply.{Supply}
use Rattle.serve_stage.specs.declared.workers.WorkerDraft.{WorkerDraft}
use Rattle.serve_stage.specs.Parts.{Served, file_of, IsActor}
use Rattle.serve_stage.specs.Urls.{worker_url}

abbrev pub Passes : Type 0
Passes = Vec Sender

abbrev pub Readers : Type 0
Readers = Vec (ℕ × Seeing)

-- the passes of both actors, each at its post, which has so many senders
abbrev pub AreTakers : ℕ → List PostId → Taker × Taker → Type 0
AreTakers senders posts takers = IsTakerOf senders posts 0 takers.0 × IsTakerOf senders posts 1 takers.1

module _ {R : Type 0} where
  -- the script with this number, which has its passes among these
  pub record IsScriptDraft (posts : List PostId) (guilds : List ℕ) (passes : List Passes) (number : ℕ) (draft : ScriptDraft R) : Type 0 where
    pub posts_are : draft.ground.posts ≡ posts
    pub passes_are : IsAt passes number draft.passes
    pub index_is : draft.index.keys ≡ guilds

  -- the worker with this number, which has its passes and its readers among these
  pub record IsWorkerDraft (posts : List PostId) (passes : List Passes) (readers : List Readers) (bots : List Bot) (guilds : List ℕ) (port number : ℕ) (draft : WorkerDraft R) : Type 0 where
    pub posts_are : draft.ground.posts ≡ posts
    pub passes_are : IsAt passes number draft.passes
    pub readers_are : IsAt readers number draft.readers
    pub worker_is : Represents draft.worker (first_worker bots guilds number (worker_url port number))

  -- what the script's part needs besides a file
  abbrev pub MaySend : ScriptDraft R → Type 0
  MaySend draft = CanSend draft.ground.posts draft.passes.items

  -- what the worker's part needs besides a door and a clock
  abbrev pub MayWork : WorkerDraft R → Type 0
  MayWork draft = CanWork draft.ground.posts draft.passes.items draft.readers.items

  module _ {S : Type 0} where
    -- the part of a script that has a file now
    pub record IsScriptOf (draft : ScriptDraft R) (part : FilePart S R) : Type 0 where
      pub posts_are : part.posts ≡ draft.ground.posts
      pub passes_are : part.passes ≡ draft.passes
      pub index_is : part.index ≡ draft.index

    -- the part of the script with this number, of those that had no files
    pub record IsFiledScript (drafts : List (ScriptDraft R)) (files : List (ScriptFile S)) (number : ℕ) (part : FilePart S R) : Type 0 where
      pub draft : ScriptDraft R
      pub is_draft : IsAt drafts number draft
      pub is_file : IsAt files number (file_of part)
      pub is_of : IsScriptOf draft part

  module _ {D C : Type 0} where
    -- the part of a worker that has a door and a clock now
    pub record IsWorkerOf (draft : WorkerDraft R) (part : Served D C R) : Type 0 where
      pub posts_are : part.posts ≡ draft.ground.posts
      pub passes_are : part.passes ≡ draft.passes
      pub readers_are : part.readers ≡ draft.readers
      pub worker_is : part.worker ≡ draft.worker

    -- the part of the worker with this number, of those that had none
    pub record IsHousedWorker (drafts : List (WorkerDraft R)) (doors : List D) (clocks : List C) (number : ℕ) (part : Served D C R) : Type 0 where
      pub draft : WorkerDraft R
      pub is_draft : IsAt drafts number draft
      pub is_door : IsAt doors number part.door
      pub is_clock : IsAt clocks number part.clock
      pub is_of : IsWorkerOf draft part

  -- what the parts of so many scripts and workers are made from, with a seat for each part and one more
  pub record IsSupply (posts : List PostId) (guilds : List ℕ) (scripts workers : ℕ) (actors : ActorSupply R) (supply : Supply) : Type 0 where
    pub posts_are : HasPosts (scripts + workers) posts actors.takers supply.passes.items
    pub hubs_are : HasHubs guilds workers actors.writers.items supply.readers.items
    pub seats_are : length supply.seats.left.items ≡ scripts + workers + 3

  -- all parts of a run, and what they were made from
  pub record AreParts (posts : List PostId) (port : ℕ) (bots : List Bot) (guilds : List ℕ) (scripts workers : ℕ) (parts : Parts R) : Type 0 where
    pub passes : List Passes
    pub writers : List (ℕ × Publishing)
    pub readers : List Readers
    pub passes_are : AreFrom (ArePassesOf posts) 0 (scripts + workers) passes
    pub hubs_are : HasHubs guilds workers writers readers
    pub distinct : AreDistinct guilds
    pub actors_are : AreFrom (IsActor posts (scripts + workers) writers) 0 2 parts.actors.items
    pub scripts_are : AreFrom (IsScriptDraft posts guilds passes) 0 scripts parts.scripts.items
    pub workers_are : AreFrom (IsWorkerDraft posts (drop scripts passes) readers bots guilds port) 0 workers parts.workers.items

  -- the same with what they share, and a seat that is left
  pub record IsDraft (port : ℕ) (bots : List Bot) (guilds : List ℕ) (scripts workers : ℕ) (draft : Draft R) : Type 0 where
    pub two : length draft.ground.posts ≡ 2
    pub seat_is : length draft.supply.seats.left.items ≡ 1
    pub parts_are : AreParts draft.ground.posts port bots guilds scripts workers draft.parts
