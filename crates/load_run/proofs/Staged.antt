-- What the ended parts of a load have done, by how they were set up.
use Rattle.std.proofs.Common.{ℕ, ◌+◌, List, [], ◌∷◌, map, Some, subst}
use Rattle.std.specs.List.{AllZip}
use Rattle.atomic_table.specs.Seated.{TableId}
use Rattle.std.specs.Global.{Global}
use Rattle.crossbeam_queue.specs.SegTies.{SegId}
use Rattle.edit_post.specs.Post.{PostId, Sender}
use Rattle.edit_text.specs.declared.line.Line.{Line}
use Rattle.gate_outside.specs.Clocks.{ClockTale}
use Rattle.guild_hub.specs.Writes.{Publishing}
use Rattle.thread_outside.specs.DialledDoors.{DialledState, dialled_tale, door_dial_tale}
use Rattle.thread_outside.specs.declared.kept_notes.KeptNotes.{KeptNotes}
use Rattle.worker_core.specs.declared.io.Input.{Input}
use Rattle.gate_parts.specs.Actors.{ActorGives}
use Rattle.gate_parts.specs.Scripts.{Sends, ScriptGives}
use Rattle.gate_parts.specs.declared.actor_part.ActorPart.{ActorPart}
use Rattle.gate_parts.specs.declared.actor_part.ActorDone.{ActorDone}
use Rattle.gate_parts.specs.declared.script_part.ScriptPart.{ScriptPart}
use Rattle.gate_parts.specs.declared.script_part.ScriptDone.{ScriptDone}
use Rattle.gate_parts.specs.declared.worker_part.WorkerPart.{WorkerPart}
use Rattle.gate_parts.specs.declared.worker_part.WorkerDone.{WorkerDone}
use Rattle.load_maker.specs.Script.{script}
use Rattle.load_client.specs.Ended.{HasEnded}
use Rattle.load_client.specs.declared.load_client.LoadClient.{LoadClient}
use Rattle.load_parts.specs.Clients.{ClientGives}
use Rattle.load_parts.specs.Parts.{DoorWorkerGives}
use Rattle.load_parts.specs.declared.client_part.ClientPart.{ClientPart}
use Rattle.load_parts.specs.declared.client_part.ClientDone.{ClientDone}
use Rattle.load_stage.specs.Guilds.{guild_ids}
use Rattle.load_stage.specs.Parts.{IsActor, IsScript, IsWorker}
use Rattle.load_stage.specs.Clients.{IsClient}
use Rattle.gate_ends.specs.Done.{worker_end}
use Rattle.gate_ends.specs.Ends.{ActorEnds}
use Rattle.gate_ends.proofs.Began.{actor_ends, worker_serves}
use Rattle.load_run.specs.Joined.{ScriptEnds, WorkerEnds, ClientEnds}
use Rattle.load_run.specs.Sorted.{script_end, ended_of}

module _ {R : Type 0} (posts : List PostId) (flag : TableId) (writers : List (ℕ × Publishing)) where
  pub one_actor : (n : ℕ) (p : ActorPart R) (d : ActorDone R) → IsActor posts flag writers n p → ActorGives p d → ActorEnds posts writers 7 n d
  one_actor n p d is gives = actor_ends posts writers 7 n p d is.pass_is is.writers_are gives

  pub one_script : (seed n : ℕ) (p : ScriptPart R) (d : ScriptDone) → IsScript posts flag seed n p → ScriptGives p d → ScriptEnds seed posts n (script_end d)
  one_script seed n p d is gives =
      subst (λ (xs : List Sender). Sends guild_ids (script seed n) xs d.ending d.passes.items) is.passes_are
      (subst (λ (ls : List Line). Sends guild_ids ls p.passes.items d.ending d.passes.items) is.lines_are
      (subst (λ (gs : List ℕ). Sends gs p.lines.items p.passes.items d.ending d.passes.items) is.index_is gives.sends))

  pub one_worker : {C : Type 0} (clock_tale : C → ClockTale) (queues : List (SegId Global)) (clocks : List C) (n : ℕ) (p : WorkerPart DialledState C (KeptNotes Input) R) (d : WorkerDone DialledState C (KeptNotes Input))
      → IsWorker posts flag writers queues clocks n p → DoorWorkerGives clock_tale p d → WorkerEnds posts writers n (worker_end d)
  one_worker clock_tale queues clocks n p d is gives = record {
    serves = worker_serves dialled_tale (λ door. door.plan.faults) clock_tale (λ kept. Some kept.notes.items) posts writers (4 + n) p d is.readers_are is.passes_are gives;
    is_new = is.worker_is;
  }

pub one_client : {C R : Type 0} (clock_tale : C → ClockTale) (flag : TableId) (queues : List (SegId Global)) (clocks : List C) (n : ℕ) (p : ClientPart C R) (d : ClientDone C)
    → IsClient flag queues clocks n p → ClientGives clock_tale p d → ClientEnds flag n (ended_of d)
one_client clock_tale flag queues clocks n p d is gives = record {
  visits = gives.0;
  dial = door_dial_tale p.dial;
  dial_after = gives.1;
  clock = clock_tale p.clock;
  clock_after = clock_tale d.clock;
  has_ended = subst (λ (c : LoadClient). HasEnded c gives.0 (door_dial_tale p.dial) gives.1 (clock_tale p.clock) (clock_tale d.clock) d.ended) is.client_is gives.2;
}

-- a list of what was made of items
pub zip_map : {A B D : Type 0} (f : B → D) (T : A → D → Type 0) (xs : List A) (ys : List B) → AllZip (λ a b. T a (f b)) xs ys → AllZip T xs (map f ys)
zip_map f T [] [] h = tt
zip_map f T [] (b ∷ ys) h = elim h [ ]
zip_map f T (a ∷ xs) [] h = elim h [ ]
zip_map f T (a ∷ xs) (b ∷ ys) h = (h.0, zip_map f T xs ys h.1)
