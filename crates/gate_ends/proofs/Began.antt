-- What ended parts have done, by how they were set up.
use Rattle.std.proofs.Common.{◌≡◌, ℕ, List, map, Option, Some, None, option_map, slice_get, refl, sym, subst}
use Rattle.std.proofs.lemmas.Option.{same_Some, none-some}
use Rattle.edit_post.specs.Post.{PostId, Taker, new_taker}
use Rattle.gate_outside.specs.Clocks.{ClockTale}
use Rattle.gate_outside.specs.Doors.{DoorTale}
use Rattle.guild_hub.specs.Writes.{Publishing}
use Rattle.worker_run.specs.Works.{Given}
use Rattle.gate_parts.specs.Actors.{Acts, ActorGives}
use Rattle.gate_parts.specs.Workers.{WorkerGives, outside_before, outside_after}
use Rattle.gate_parts.specs.declared.actor_part.ActorPart.{ActorPart}
use Rattle.gate_parts.specs.declared.actor_part.ActorDone.{ActorDone}
use Rattle.gate_parts.specs.declared.worker_part.WorkerPart.{WorkerPart}
use Rattle.gate_parts.specs.declared.worker_part.WorkerDone.{WorkerDone}
use Rattle.run_stage.specs.Dealing.{dealt_to}
use Rattle.run_stage.specs.Hubs.{new_reader}
use Rattle.run_stage.specs.Posts.{IsTakerOf}
use Rattle.run_ends.specs.Senders.{new_passes}
use Rattle.gate_ends.specs.Done.{worker_end}
use Rattle.gate_ends.specs.Ends.{ActorEnds, WorkerServes}

-- what is there is what was made of something
made_of : {A B : Type 0} (f : A → B) (o : Option A) (b : B) → option_map f o ≡ Some b → (a : A) × ((o ≡ Some a) × (f a ≡ b))
made_of f None b e = absurd (none-some b e)
made_of f (Some a) b e = (a, (refl, same_Some (f a) b e))

-- an actor that began with a new pass of its post
pub actor_ends : {R : Type 0} (posts : List PostId) (writers : List (ℕ × Publishing)) (senders number : ℕ) (p : ActorPart R) (d : ActorDone R)
    → IsTakerOf senders posts number p.pass → p.writers.items ≡ dealt_to number writers → ActorGives p d → ActorEnds posts writers senders number d
actor_ends posts writers senders number p d pass dealt gives =
    let made = made_of (λ post. new_taker post senders) (slice_get posts number) p.pass pass in
    record {
      post = made.0;
      at_place = made.1.0;
      acts = subst (λ (ws : List (ℕ × Publishing)). Acts (new_taker made.0 senders) ws d.ending) dealt (subst (λ (pass : Taker). Acts pass p.writers.items d.ending) (sym made.1.1) gives.acts);
    }

-- a worker that began with new readers and new passes
abbrev pub worker_serves : {D C J R : Type 0} (door_tale : D → DoorTale) (door_faults : D → ℕ) (clock_tale : C → ClockTale) (noted : J → Option (List Given)) (posts : List PostId) (writers : List (ℕ × Publishing)) (sender : ℕ)
    (p : WorkerPart D C J R) (d : WorkerDone D C J) → p.readers.items ≡ map new_reader writers → p.passes.items ≡ new_passes posts sender → WorkerGives door_tale door_faults clock_tale noted p d
    → WorkerServes posts writers sender (worker_end d)
worker_serves door_tale door_faults clock_tale noted posts writers sender p d readers passes gives = record {
  worker = p.worker;
  before = outside_before door_tale door_faults clock_tale noted p;
  after = outside_after door_tale door_faults clock_tale noted d;
  readers_before = readers;
  passes_before = passes;
  readers_after = refl;
  passes_after = refl;
  works = gives.works;
}
