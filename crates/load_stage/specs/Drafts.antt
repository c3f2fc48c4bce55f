-- internal: cited by private functions only. The parts of a load that have no clocks yet.
use Rattle.std.specs.Prelude.{◌≡◌, ℕ, ◌+◌, List, [], length}
use Rattle.std.specs.Global.{Vec}
use Rattle.atomic_table.specs.Seated.{TableId}
use Rattle.edit_post.specs.Post.{PostId}
use Rattle.guild_hub.specs.Sights.{Seeing}
use Rattle.guild_hub.specs.Writes.{Publishing}
use Rattle.stop_flag.specs.Flags.{new_seat}
use Rattle.thread_outside.specs.DialledDoors.{DialledState, DoorDialState}
use Rattle.thread_outside.specs.declared.kept_notes.KeptNotes.{KeptNotes}
use Rattle.world_law.specs.Model.{first_worker}
use Rattle.worker_core.specs.Represents.{Represents}
use Rattle.worker_core.specs.declared.io.Input.{Input}
use Rattle.gate_parts.specs.declared.worker_part.WorkerPart.{WorkerPart}
use Rattle.gate_parts.specs.Ready.{CanWork}
use Rattle.load_parts.specs.declared.client_part.ClientPart.{ClientPart}
use Rattle.run_ends.specs.Senders.{new_passes}
use Rattle.run_stage.specs.Dealing.{AreFrom, IsAt}
use Rattle.run_stage.specs.Hubs.{HasHubs}
use Rattle.run_stage.specs.Posts.{HasPosts}
use Rattle.run_stage.specs.Seats.{HasSeats}
use Rattle.load_stage.specs.declared.clients.ClientDraft.{ClientDraft}
use Rattle.load_stage.specs.declared.drafting.Draft.{Draft}
use Rattle.load_stage.specs.declared.drafting.Parts.{Parts}
use Rattle.load_stage.specs.declared.supply.Supply.{Supply}
use Rattle.load_stage.specs.declared.workers.WorkerDraft.{WorkerDraft}
use Rattle.load_stage.specs.Bots.{load_bots, worker_url}
use Rattle.load_stage.specs.Clients.{client_with}
use Rattle.load_stage.specs.Doors.{HasDoors}
use Rattle.load_stage.specs.Guilds.{guild_ids}
use Rattle.load_stage.specs.Parts.{IsActor, IsScript}

abbrev pub Readers : Type 0
Readers = Vec (ℕ × Seeing)

module _ {R : Type 0} where
  -- the worker with this number, which has its door and its readers among these
  pub record IsWorkerDraft (posts : List PostId) (flag : TableId) (doors : List DialledState) (readers : List Readers) (number : ℕ) (draft : WorkerDraft R) : Type 0 where
    pub posts_are : draft.ground.posts ≡ posts
    pub passes_are : draft.passes.items ≡ new_passes posts (4 + number)
    pub readers_are : IsAt readers number draft.readers
    pub worker_is : Represents draft.worker (first_worker load_bots guild_ids number (worker_url number))
    pub door_is : IsAt doors number draft.door
    pub seat_is : draft.seat ≡ new_seat flag (6 + number)

  -- the client with this number, which has its dial among these
  pub record IsClientDraft (flag : TableId) (dials : List DoorDialState) (number : ℕ) (draft : ClientDraft R) : Type 0 where
    pub client_is : draft.client ≡ client_with (new_seat flag (9 + number)) number
    pub dial_is : IsAt dials number draft.dial

  -- what the worker's part needs besides a clock
  abbrev pub CanBegin : WorkerDraft R → Type 0
  CanBegin draft = CanWork draft.ground.posts draft.passes.items draft.readers.items

  -- the dial of the client has not run dry
  abbrev pub HasNotFailed : ClientDraft R → Type 0
  HasNotFailed draft = draft.dial.dry_run ≡ 0

  module _ {C : Type 0} where
    -- the part of a worker that has a clock now
    pub record IsWorkerOf (draft : WorkerDraft R) (part : WorkerPart DialledState C (KeptNotes Input) R) : Type 0 where
      pub posts_are : part.posts ≡ draft.ground.posts
      pub passes_are : part.passes ≡ draft.passes
      pub readers_are : part.readers ≡ draft.readers
      pub worker_is : part.worker ≡ draft.worker
      pub door_is : part.door ≡ draft.door
      pub notes_are : part.notes.notes.items ≡ []
      pub seat_is : part.seat ≡ draft.seat

    -- the part of a client that has a clock now
    pub record IsClientOf (draft : ClientDraft R) (part : ClientPart C R) : Type 0 where
      pub client_is : part.client ≡ draft.client
      pub dial_is : part.dial ≡ draft.dial

    -- the part of the worker with this number, of those that had no clocks
    pub record IsClockedWorker (drafts : List (WorkerDraft R)) (clocks : List C) (number : ℕ) (part : WorkerPart DialledState C (KeptNotes Input) R) : Type 0 where
      pub draft : WorkerDraft R
      pub is_draft : IsAt drafts number draft
      pub is_clock : IsAt clocks number part.clock
      pub is_of : IsWorkerOf draft part

    -- the same of a client
    pub record IsClockedClient (drafts : List (ClientDraft R)) (clocks : List C) (number : ℕ) (part : ClientPart C R) : Type 0 where
      pub draft : ClientDraft R
      pub is_draft : IsAt drafts number draft
      pub is_clock : IsAt clocks number part.clock
      pub is_of : IsClientOf draft part

  -- what the parts of a load are made from
  pub record IsSupply (posts : List PostId) (supply : Supply R) : Type 0 where
    pub posts_are : HasPosts 7 posts supply.takers supply.passes.items
    pub hubs_are : HasHubs guild_ids 3 supply.writers.items supply.served.readers.items
    pub doors_are : HasDoors supply.served.doors.items supply.dials.items

  -- all parts of a load, and what they were made from
  pub record AreParts (posts : List PostId) (flag : TableId) (seed : ℕ) (parts : Parts R) : Type 0 where
    pub writers : List (ℕ × Publishing)
    pub readers : List Readers
    pub doors : List DialledState
    pub dials : List DoorDialState
    pub hubs_are : HasHubs guild_ids 3 writers readers
    pub doors_are : HasDoors doors dials
    pub actors_are : AreFrom (IsActor posts flag writers) 0 2 parts.actors.items
    pub scripts_are : AreFrom (IsScript posts flag seed) 0 4 parts.scripts.items
    pub workers_are : AreFrom (IsWorkerDraft posts flag doors readers) 0 3 parts.workers.items
    pub clients_are : AreFrom (IsClientDraft flag dials) 0 12 parts.clients.items

  -- the same with what they share
  pub record IsDraft (seed : ℕ) (draft : Draft R) : Type 0 where
    pub two : length draft.ground.posts ≡ 2
    pub seats_are : HasSeats 22 21 1 draft.seats
    pub parts_are : AreParts draft.ground.posts draft.seats.keeper.flag seed draft.parts
