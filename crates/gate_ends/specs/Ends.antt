-- What the ended actors and workers of a run have done, by how they began.
use Rattle.std.specs.Prelude.{◌≡◌, ℕ, List, Some, map, slice_get}
use Rattle.edit_post.specs.Post.{PostId, new_taker}
use Rattle.guild_hub.specs.Writes.{Publishing}
use Rattle.run_ends.specs.Senders.{new_passes}
use Rattle.run_stage.specs.Dealing.{dealt_to}
use Rattle.run_stage.specs.Hubs.{new_reader}
use Rattle.worker_run.specs.Works.{KeptWorker, Outside}
use Rattle.gate_parts.specs.Actors.{Acts}
use Rattle.gate_parts.specs.Workers.{WorksOrStops}
use Rattle.gate_parts.specs.declared.actor_part.ActorDone.{ActorDone}
use Rattle.gate_ends.specs.declared.ending.WorkerEnd.{WorkerEnd}

module _ (posts : List PostId) (writers : List (ℕ × Publishing)) where
  -- an actor has acted on its post, to which so many senders send, for every second guild
  pub record ActorEnds {R : Type 0} (senders number : ℕ) (d : ActorDone R) : Type 0 where
    pub post : PostId
    pub at_place : slice_get posts number ≡ Some post
    pub acts : Acts (new_taker post senders) (dealt_to number writers) d.ending

  -- a worker has served from all logs, as the sender of this number
  pub record WorkerServes (sender : ℕ) (e : WorkerEnd) : Type 0 where
    pub worker : KeptWorker
    pub before : Outside
    pub after : Outside
    pub readers_before : before.readers ≡ map new_reader writers
    pub passes_before : before.passes ≡ new_passes posts sender
    pub readers_after : after.readers ≡ e.readers.items
    pub passes_after : after.passes ≡ e.passes.items
    pub works : WorksOrStops worker before e.ending after
