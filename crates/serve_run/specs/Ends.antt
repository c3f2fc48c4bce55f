-- What the ended parts of a run of `serve` have done, by how they began: its actors, scripts and workers.
use Rattle.std.specs.Prelude.{◌≡◌, ℕ, ◌+◌, List, ◌++◌, Result, map, length}
use Rattle.std.specs.List.{AllZip}
use Rattle.std.specs.declared.option.Option.{Option as Known}
use Rattle.std.specs.Io.KnownBytes.{Consumes}
use Rattle.edit_post.specs.Post.{PostId, Sender, after_end}
use Rattle.file_script.specs.Sends.{SendsFile}
use Rattle.file_script.specs.declared.fault.ScriptFault.{ScriptFault}
use Rattle.guild_hub.specs.Writes.{Publishing}
use Rattle.run_stage.specs.Dealing.{AreFrom, IsAt}
use Rattle.run_stage.specs.Hubs.{IsNewWriter}
use Rattle.run_ends.specs.Senders.{new_passes}
use Rattle.world_law.specs.Model.{first_worker}
use Rattle.worker_core.specs.Represents.{Represents}
use Rattle.gate_parts.specs.declared.actor_part.ActorDone.{ActorDone}
use Rattle.gate_parts.specs.declared.ending.Ending.{Ending}
use Rattle.gate_parts.specs.declared.ending.Ending.TheVariants.{Ran, Stopped}
use Rattle.serve_stage.specs.Urls.{worker_url}
use Rattle.gate_ends.specs.Ends.{ActorEnds, WorkerServes}
use Rattle.gate_ends.specs.declared.ending.WorkerEnd.{WorkerEnd}
use Rattle.serve_run.specs.Files.{FileEnd}
use Rattle.serve_run.specs.Services.{Service, FileTale, DoorGiven, ascending, senders}

-- a script has read on from its head, and its passes have sent the edits of its file, all of them or those before its
-- fault; or it has stopped before it began. Then each pass has ended.
abbrev pub SendsOrStops : List ℕ → FileTale → List Sender → Ending (Result (Unit {0}) ScriptFault) → List Sender → Type 0
SendsOrStops guilds file old (Ran result) new = (more : List ℕ) × (after : Known (List ℕ)) × (sent : List Sender) × Consumes file.left after more
    × SendsFile guilds after (file.head ++ more) old sent result × (new ≡ map after_end sent)
SendsOrStops guilds file old Stopped new = new ≡ map after_end old

module _ (s : Service) (posts : List PostId) where
  -- the script of the file with this number
  pub record FileEnds (number : ℕ) (e : FileEnd) : Type 0 where
    pub file : FileTale
    pub file_is : IsAt s.files number file
    pub sends : SendsOrStops (ascending s.guilds) file (new_passes posts number) e.ending e.passes.items

  -- a worker has served from all logs at its door, as the sender after the scripts and the workers before it
  pub record WorkerEnds (writers : List (ℕ × Publishing)) (number : ℕ) (e : WorkerEnd) : Type 0 where
    pub serves : WorkerServes posts writers (length s.files + number) e
    pub is_new : Represents serves.worker (first_worker s.bots (ascending s.guilds) number (worker_url s.port number))
    pub door : DoorGiven
    pub door_is : IsAt s.doors number door
    pub door_before : (serves.before.door ≡ door.tale) × (serves.before.door_faults ≡ door.faults)
    pub clock_before : IsAt s.clocks number serves.before.clock

-- all parts of a run, by what each kind has left
pub record Joined {R : Type 0} (s : Service) (posts : List PostId) (actors : List (ActorDone R)) (scripts : List FileEnd) (workers : List WorkerEnd) : Type 0 where
  pub two : length posts ≡ 2
  pub writers : List (ℕ × Publishing)
  pub writers_are : AllZip IsNewWriter (ascending s.guilds) writers
  pub actors_are : AreFrom (ActorEnds posts writers (senders s)) 0 2 actors
  pub scripts_are : AreFrom (FileEnds s posts) 0 (length s.files) scripts
  pub workers_are : AreFrom (WorkerEnds s posts writers) 0 (length s.doors) workers
