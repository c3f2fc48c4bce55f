-- Why a load does not come to its end, and what it leaves.
use Rattle.std.specs.Prelude.{◌≡◌, ◌⊎◌, ℕ, List, ◌++◌, Option, Result, Ok, Err}
use Rattle.std.specs.Io.KnownBytes.{Appends}
use Rattle.atomic_table.specs.Seated.{TableId}
use Rattle.edit_post.specs.Post.{PostId}
use Rattle.edit_post.specs.declared.send_refused.SendRefused.{SendRefused}
use Rattle.edit_post.specs.declared.send_refused.SendRefused.TheVariants as post
use Rattle.gate_outside.specs.Causes.{Rose}
use Rattle.gate_outside.specs.Spawners.{Starts}
use Rattle.gate_outside.specs.Streams.{AppendsFront}
use Rattle.guild_hub.specs.Writes.{Publishing}
use Rattle.worker_run.specs.declared.fault.WorkFault.{WorkFault}
use Rattle.worker_run.specs.declared.fault.WorkFault.TheVariants as work
use Rattle.client_run.specs.declared.fault.DriveFault.{DriveFault}
use Rattle.client_run.specs.declared.fault.DriveFault.TheVariants as drive
use Rattle.load_client.specs.declared.ended_client.EndedClient.{EndedClient}
use Rattle.gate_parts.specs.declared.ending.Ending.TheVariants.{Ran}
use Rattle.team_run.specs.Teams.{many_more}
use Rattle.gate_ends.specs.declared.ending.ScriptEnd.{ScriptEnd}
use Rattle.gate_ends.specs.declared.ending.WorkerEnd.{WorkerEnd}
use Rattle.load_run.specs.declared.fault.LoadFault.{LoadFault}
use Rattle.load_run.specs.declared.fault.LoadFault.TheVariants.{Memory, Spent, Start, Door, Write, Out, BadText}
use Rattle.load_run.specs.Joined.{WorkerEnds, ScriptEnds, ClientEnds}
use Rattle.load_run.specs.Loads.{IsLoad}

-- a script of the load ended since a pass had sent as many requests as it can number
abbrev pub ScriptSpent : ℕ → Type 0
ScriptSpent seed = (posts : List PostId) × ((number : ℕ) × ((e : ScriptEnd SendRefused) × (ScriptEnds seed posts number e × (e.ending ≡ Ran (Err post.Spent)))))

-- a worker of a load ended by this fault
abbrev pub WorkerEnded : WorkFault → Type 0
WorkerEnded fault = (posts : List PostId) × ((writers : List (ℕ × Publishing)) × ((number : ℕ) × ((e : WorkerEnd) × (WorkerEnds posts writers number e × (e.ending ≡ Ran (Err fault))))))

-- a client of a load ended by this fault
abbrev pub ClientEnded : DriveFault → Type 0
ClientEnded fault = (flag : TableId) × ((number : ℕ) × ((e : EndedClient) × (ClientEnds flag number e × (e.driven ≡ Err fault))))

-- why a load with this seed ends by a fault; memory may run out at any time
abbrev pub LoadCause : (seed : ℕ) (team0 team1 sink0 sink1 : ℕ) → LoadFault → Type 0
LoadCause seed team0 team1 sink0 sink1 Memory = Unit {0}
LoadCause seed team0 team1 sink0 sink1 Spent = ScriptSpent seed ⊎ WorkerEnded work.Spent
LoadCause seed team0 team1 sink0 sink1 Start = Rose team0 team1
LoadCause seed team0 team1 sink0 sink1 Door = WorkerEnded work.Door
LoadCause seed team0 team1 sink0 sink1 Write = Rose sink0 sink1
LoadCause seed team0 team1 sink0 sink1 (Out code) = ClientEnded (drive.Out code)
LoadCause seed team0 team1 sink0 sink1 BadText = ClientEnded drive.BadText

abbrev pub HasLoadCause : (seed : ℕ) (team0 team1 sink0 sink1 : ℕ) → Result (Unit {0}) LoadFault → Type 0
HasLoadCause seed team0 team1 sink0 sink1 (Ok u) = (team1 ≡ team0) × (sink1 ≡ sink0)
HasLoadCause seed team0 team1 sink0 sink1 (Err fault) = LoadCause seed team0 team1 sink0 sink1 fault

-- nothing went out, or a front of what waited and of the summary
abbrev pub WritesFront : (seed : ℕ) (got0 got1 : Option (List ℕ)) (waits : List ℕ) → Type 0
WritesFront seed got0 got1 waits = (got1 ≡ got0) ⊎ ((text : List ℕ) × (IsLoad seed text × AppendsFront got0 got1 (waits ++ text)))

-- what went out: what had waited and the summary, or by a fault of the sink or for want of memory a front of both,
-- or by another fault nothing
abbrev pub Loads : (seed : ℕ) (got0 got1 : Option (List ℕ)) (waits : List ℕ) → Result (Unit {0}) LoadFault → Type 0
Loads seed got0 got1 waits (Ok u) = (text : List ℕ) × (IsLoad seed text × Appends got0 got1 (waits ++ text))
Loads seed got0 got1 waits (Err Memory) = WritesFront seed got0 got1 waits
Loads seed got0 got1 waits (Err Write) = WritesFront seed got0 got1 waits
Loads seed got0 got1 waits (Err Spent) = got1 ≡ got0
Loads seed got0 got1 waits (Err Start) = got1 ≡ got0
Loads seed got0 got1 waits (Err Door) = got1 ≡ got0
Loads seed got0 got1 waits (Err (Out code)) = got1 ≡ got0
Loads seed got0 got1 waits (Err BadText) = got1 ≡ got0

-- no part was started after one was finished, if nothing was finished before; and a load that came to its end has
-- asked for one start of each of its 21 parts
pub record StartsParts (before after : Starts) (result : Result (Unit {0}) LoadFault) : Type 0 where
  pub late : before.finished ≡ 0 → after.late ≡ before.late
  pub asked : result ≡ Ok tt → after.asked ≡ many_more 21 before.asked
