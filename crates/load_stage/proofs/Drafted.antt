-- The parts that have no clocks yet, and that they are ready.
use Rattle.std.proofs.Common.{◌≡◌, ℕ, ◌+◌, ◌/◌, ◌%◌, ◌<◌, List, map, length, refl, sym, subst}
use Rattle.std.specs.Prelude.{Option, Some, None, All, option_map, slice_get}
use Rattle.std.specs.Global.{Global}
use Rattle.atomic_table.specs.Seated.{TableId}
use Rattle.crossbeam_queue.specs.SegTies.{SegId}
use Rattle.edit_post.specs.Post.{PostId}
use Rattle.thread_outside.specs.DialledDoors.{DoorDialState, new_door_dial}
use Rattle.gate_parts.specs.Ready.{CanWork}
use Rattle.run_stage.specs.Hubs.{Has, new_reader}
use Rattle.run_stage.proofs.Numbered.{all_at, as_many, of_each, placed}
use Rattle.load_stage.specs.declared.clients.ClientDraft.{ClientDraft}
use Rattle.load_stage.specs.declared.drafting.Parts.{Parts}
use Rattle.load_stage.specs.declared.workers.WorkerDraft.{WorkerDraft}
use Rattle.load_stage.specs.Doors.{IsDialOf}
use Rattle.load_stage.specs.Drafts.{AreParts, CanBegin, HasNotFailed, IsClientDraft, IsWorkerDraft}
use Rattle.load_stage.proofs.Ready.{can_work}

dry : (queue : Option (SegId Global)) (number : ℕ) (dial : DoorDialState) → option_map (λ q. new_door_dial q number) queue ≡ Some dial → dial.dry_run ≡ 0
dry None number dial e = absurd (cc)
dry (Some q) number dial e =
    let same : new_door_dial q number ≡ dial = cc in
    subst (λ (d : DoorDialState). d.dry_run ≡ 0) same refl

module _ {R : Type 0} (posts : List PostId) (flag : TableId) (seed : ℕ) (parts : Parts R) (are : AreParts posts flag seed parts) where
  -- the readers of a worker
  pub worker_readers : (n : ℕ) (draft : WorkerDraft R) → IsWorkerDraft posts flag are.doors are.readers n draft → draft.readers.items ≡ map new_reader are.writers
  worker_readers n draft is = all_at (Has (map new_reader are.writers)) are.readers n draft.readers are.hubs_are.readers_are.each_has is.readers_are

  can_begin : 0 < length posts → (n : ℕ) (draft : WorkerDraft R) → IsWorkerDraft posts flag are.doors are.readers n draft → CanBegin draft
  can_begin some n draft is =
      subst (λ l. CanWork l draft.passes.items draft.readers.items) (sym is.posts_are)
      (can_work are.writers are.hubs_are.writers_are posts (4 + n) draft.passes.items draft.readers.items some is.passes_are (worker_readers n draft is))

  pub all_can_begin : 0 < length posts → All CanBegin parts.workers.items
  all_can_begin some = of_each (IsWorkerDraft posts flag are.doors are.readers) CanBegin (can_begin some) 0 3 parts.workers.items are.workers_are

  has_not_failed : (n : ℕ) (draft : ClientDraft R) → IsClientDraft flag are.dials n draft → HasNotFailed draft
  has_not_failed n draft is =
      let queues = are.doors_are.queues in
      dry (slice_get queues (n % 3)) (n / 3) draft.dial (placed (IsDialOf queues) 12 are.dials n draft.dial are.doors_are.dials_are is.dial_is)

  pub none_has_failed : All HasNotFailed parts.clients.items
  none_has_failed = of_each (IsClientDraft flag are.dials) HasNotFailed has_not_failed 0 12 parts.clients.items are.clients_are

  pub three_workers : length parts.workers.items ≡ 3
  three_workers = as_many (IsWorkerDraft posts flag are.doors are.readers) 0 3 parts.workers.items are.workers_are

  pub twelve_clients : length parts.clients.items ≡ 12
  twelve_clients = as_many (IsClientDraft flag are.dials) 0 12 parts.clients.items are.clients_are
