-- What is known of the ended parts of a load by how they began.
use Rattle.std.specs.Prelude.{◌≡◌, ℕ, ◌+◌, List, length}
use Rattle.std.specs.List.{AllZip}
use Rattle.atomic_table.specs.Seated.{TableId}
use Rattle.stop_flag.specs.Flags.{new_seat}
use Rattle.edit_post.specs.Post.{PostId}
use Rattle.edit_post.specs.declared.send_refused.SendRefused.{SendRefused}
use Rattle.gate_outside.specs.Clocks.{ClockTale}
use Rattle.gate_outside.specs.Dials.{DialTale}
use Rattle.guild_hub.specs.Writes.{Publishing}
use Rattle.load_maker.specs.Script.{script}
use Rattle.world_law.specs.Model.{first_worker}
use Rattle.worker_core.specs.Represents.{Represents}
use Rattle.client_run.specs.Histories.{Visit}
use Rattle.load_client.specs.Ended.{HasEnded}
use Rattle.load_client.specs.declared.ended_client.EndedClient.{EndedClient}
use Rattle.gate_parts.specs.Scripts.{Sends}
use Rattle.gate_parts.specs.declared.actor_part.ActorDone.{ActorDone}
use Rattle.run_ends.specs.Senders.{new_passes}
use Rattle.run_stage.specs.Dealing.{AreFrom}
use Rattle.run_stage.specs.Hubs.{IsNewWriter}
use Rattle.load_stage.specs.Bots.{load_bots, worker_url}
use Rattle.load_stage.specs.Clients.{client_with}
use Rattle.load_stage.specs.Guilds.{guild_ids}
use Rattle.gate_ends.specs.Ends.{ActorEnds, WorkerServes}
use Rattle.gate_ends.specs.declared.ending.ScriptEnd.{ScriptEnd}
use Rattle.gate_ends.specs.declared.ending.WorkerEnd.{WorkerEnd}
use Rattle.load_run.specs.declared.sorting.Ends.{Ends}

-- a worker has served from all logs, as the sender after the four scripts and the workers before it
pub record WorkerEnds (posts : List PostId) (writers : List (ℕ × Publishing)) (number : ℕ) (e : WorkerEnd) : Type 0 where
  pub serves : WorkerServes posts writers (4 + number) e
  pub is_new : Represents serves.worker (first_worker load_bots guild_ids number (worker_url number))

-- a script has sent its edits
abbrev pub ScriptEnds : ℕ → List PostId → ℕ → ScriptEnd SendRefused → Type 0
ScriptEnds seed posts number e = Sends guild_ids (script seed number) (new_passes posts number) e.ending e.passes.items

-- a client has followed its worker
pub record ClientEnds (flag : TableId) (number : ℕ) (ended : EndedClient) : Type 0 where
  pub visits : List Visit
  pub dial : DialTale
  pub dial_after : DialTale
  pub clock : ClockTale
  pub clock_after : ClockTale
  pub has_ended : HasEnded (client_with (new_seat flag (9 + number)) number) visits dial dial_after clock clock_after ended

-- all parts of a load with this seed but for its clients
pub record Joined {R : Type 0} (seed : ℕ) (posts : List PostId) (actors : List (ActorDone R)) (scripts : List (ScriptEnd SendRefused)) (workers : List WorkerEnd) : Type 0 where
  pub two : length posts ≡ 2
  pub writers : List (ℕ × Publishing)
  pub writers_are : AllZip IsNewWriter guild_ids writers
  pub actors_are : AreFrom (ActorEnds posts writers 7) 0 2 actors
  pub scripts_are : AreFrom (ScriptEnds seed posts) 0 4 scripts
  pub workers_are : AreFrom (WorkerEnds posts writers) 0 3 workers

-- the clients of a load
abbrev pub ClientsJoined : List EndedClient → Type 0
ClientsJoined clients = (flag : TableId) × AreFrom (ClientEnds flag) 0 12 clients

-- all parts of a load, by what each kind has left
abbrev pub HasJoined : {C R : Type 0} → ℕ → List PostId → Ends C R → Type 0
HasJoined seed posts e = Joined seed posts e.actors.items e.scripts.items e.workers.items × ClientsJoined e.clients.items
