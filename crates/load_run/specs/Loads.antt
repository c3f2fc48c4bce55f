-- What a load has done whose parts all ended without a fault, and what it writes.
use Rattle.std.specs.Prelude.{◌≡◌, ℕ, ◌+◌, ◌/◌, ◌%◌, List, ◌++◌, map, All, None, Ok}
use Rattle.std.specs.List.{AllZip, range_with_len}
use Rattle.atomic_table.specs.Seated.{TableId}
use Rattle.stop_flag.specs.Flags.{new_seat}
use Rattle.edit_apply.specs.declared.Edit.{Edit}
use Rattle.gate_outside.specs.Clocks.{ClockTale}
use Rattle.gate_outside.specs.Dials.{DialTale}
use Rattle.dispatch_types.specs.declared.viewer.Viewer.{Viewer}
use Rattle.guild_hub.specs.Logs.{Published, whole_record}
use Rattle.guild_hub.specs.Sights.{Seeing}
use Rattle.guild_places.specs.Places.{guilds_of}
use Rattle.script_run.specs.Scripts.{edits_in}
use Rattle.load_maker.specs.Script.{script}
use Rattle.world_law.specs.Model.{first_worker}
use Rattle.worker_core.specs.InCode.{KeptWorker}
use Rattle.worker_core.specs.Represents.{Represents}
use Rattle.worker_run.specs.Histories.{History, wishes}
use Rattle.worker_run.specs.Hubs.{IsUnread}
use Rattle.worker_run.specs.Works.{Outside, Works}
use Rattle.worker_run.specs.declared.report.WorkReport.{WorkReport}
use Rattle.client_run.specs.Histories.{Visit}
use Rattle.client_run.specs.declared.driven.Driven.TheVariants.{Finished}
use Rattle.load_client.specs.Agreement.{AgreeSo}
use Rattle.load_client.specs.Ended.{HasEnded}
use Rattle.load_client.specs.declared.ended_client.EndedClient.{EndedClient}
use Rattle.load_stage.specs.Bots.{load_bots, worker_url}
use Rattle.load_stage.specs.Clients.{client_with, intents_of}
use Rattle.load_stage.specs.Guilds.{guild_ids}
use Rattle.log_summary.specs.Summary.{summary_text}
use Rattle.run_ends.specs.Logs.{IsMergedLog}

-- a worker has served its clients from these logs, from their first entries to their seals, by a history of all that
-- it took and gave out; these edits its clients asked for
pub record WorkerRan (logs : List (ℕ × Published)) (number : ℕ) (wished : List (ℕ × Edit)) : Type 0 where
  pub worker : KeptWorker
  pub is_new : Represents worker (first_worker load_bots guild_ids number (worker_url number))
  pub history : History
  pub before : Outside
  pub after : Outside
  pub report : WorkReport
  pub works : Works worker history before after (Ok report)
  pub unread : All IsUnread before.readers
  pub logs_are : map (λ (r : ℕ × Seeing). (r.0, r.1.log)) after.readers ≡ logs
  pub wished_are : wishes history ≡ wished

-- for whom the dispatches of a client are
abbrev pub viewer_of : ℕ → Viewer
viewer_of number = record { user = 1 + number / 3 % 3; intents = intents_of number; shard = None; threshold = 50 }

-- a client has followed its worker until it held each guild with its last name; of so many guilds it holds the
-- projection of the sealed log
pub record ClientRan (logs : List (ℕ × Published)) (number : ℕ) (agree : ℕ) : Type 0 where
  pub flag : TableId
  pub visits : List Visit
  pub dial : DialTale
  pub dial_after : DialTale
  pub clock : ClockTale
  pub clock_after : ClockTale
  pub ended : EndedClient
  pub has_ended : HasEnded (client_with (new_seat flag (9 + number)) number) visits dial dial_after clock clock_after ended
  pub finished : ended.driven ≡ Ok Finished
  pub agrees : AgreeSo (viewer_of number) ended.client.kept (map (λ (log : ℕ × Published). whole_record log.1) logs) agree

-- what each sender sends: the four scripts their lines' edits, and the three workers what their clients ask for
abbrev pub sendings : ℕ → List (List (ℕ × Edit)) → List (List (ℕ × Edit))
sendings seed wished = map (λ part. edits_in (script seed part)) (range_with_len 0 4) ++ wished

-- the sealed logs of a load with this seed: each is one order of what the senders sent for its guild, and the workers
-- have served their clients from them
pub record AreLogs (seed : ℕ) (logs : List (ℕ × Published)) : Type 0 where
  pub guilds : guilds_of logs ≡ guild_ids
  pub wished : List (List (ℕ × Edit))
  pub merged : All (IsMergedLog (sendings seed wished)) logs
  pub workers : AllZip (WorkerRan logs) (range_with_len 0 3) wished

-- what a load with this seed writes
pub record IsLoad (seed : ℕ) (text : List ℕ) : Type 0 where
  pub logs : List (ℕ × Published)
  pub are_logs : AreLogs seed logs
  pub agrees : List ℕ
  pub clients : AllZip (ClientRan logs) (range_with_len 0 12) agrees
  pub text_is : text ≡ summary_text seed logs agrees
