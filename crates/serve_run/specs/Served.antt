-- What a run of `serve` has done whose parts all ended without a fault, and what it writes.
use Rattle.std.specs.Prelude.{◌≡◌, ℕ, ◌+◌, ◌-◌, ◌^◌, List, [], ◌∷◌, ◌++◌, map, length, min, All, None, Ok}
use Rattle.std.specs.List.{AllZip, range_with_len}
use Rattle.std.specs.declared.option.Option.{Option as Known}
use Rattle.std.specs.Io.KnownBytes.{Consumes, IsAtEnd}
use Rattle.edit_apply.specs.declared.Edit.{Edit}
use Rattle.edit_post.specs.Post.{PostId, Sender, Taker}
use Rattle.file_lines.specs.Lines.{lines_of}
use Rattle.file_script.specs.Accepted.{refused}
use Rattle.file_script.specs.Sends.{edits_of}
use Rattle.guild_hub.specs.Logs.{Published}
use Rattle.guild_hub.specs.Sights.{Seeing}
use Rattle.guild_places.specs.Places.{guilds_of}
use Rattle.guild_actor.specs.Acts.{counted, strays_of}
use Rattle.load_settle.specs.Passes.{AreTakers}
use Rattle.run_stage.specs.Dealing.{IsAt, dealt_to}
use Rattle.run_ends.specs.Logs.{IsMergedLog}
use Rattle.run_ends.specs.Senders.{HaveSent, AreTakenWhole}
use Rattle.world_law.specs.Model.{first_worker}
use Rattle.worker_core.specs.InCode.{KeptWorker}
use Rattle.worker_core.specs.Represents.{Represents}
use Rattle.worker_run.specs.Histories.{History, wishes}
use Rattle.worker_run.specs.Hubs.{IsUnread}
use Rattle.worker_run.specs.Works.{Outside, Works}
use Rattle.worker_run.specs.declared.report.WorkReport.{WorkReport}
use Rattle.serve_stage.specs.Urls.{worker_url}
use Rattle.serve_run.specs.Services.{Service, FileTale, DoorGiven, ascending}
use Rattle.serve_run.specs.Lines.{guild_lines, strays_line}

-- the file was read to its end; this is its text, and no line of it is refused
pub record IsTextOf (file : FileTale) (text : List ℕ) : Type 0 where
  pub more : List ℕ
  pub text_is : text ≡ file.head ++ more
  pub after : Known (List ℕ)
  pub reads : Consumes file.left after more
  pub at_end : IsAtEnd after
  pub unrefused : refused (lines_of text) ≡ None

-- a worker has served the clients of its door from these logs, from their first entries to their seals, by a history of
-- all that it took and gave out; these edits its clients asked for
pub record WorkerRan (s : Service) (logs : List (ℕ × Published)) (number : ℕ) (wished : List (ℕ × Edit)) : Type 0 where
  pub worker : KeptWorker
  pub is_new : Represents worker (first_worker s.bots (ascending s.guilds) number (worker_url s.port number))
  pub door : DoorGiven
  pub door_is : IsAt s.doors number door
  pub history : History
  pub before : Outside
  pub after : Outside
  pub door_before : (before.door ≡ door.tale) × (before.door_faults ≡ door.faults)
  pub clock_before : IsAt s.clocks number before.clock
  pub report : WorkReport
  pub works : Works worker history before after (Ok report)
  pub unread : All IsUnread before.readers
  pub logs_are : map (λ (r : ℕ × Seeing). (r.0, r.1.log)) after.readers ≡ logs
  pub wished_are : wishes history ≡ wished

-- what each sender sends: the scripts the edits of their files, and the workers what their clients ask for
abbrev pub sendings : List (List ℕ) → List (List (ℕ × Edit)) → List (List (ℕ × Edit))
sendings texts wished = map (λ text. edits_of (lines_of text)) texts ++ wished

-- the sealed logs of a run, by ascending guilds: each is one order of what the senders sent for its guild, and the
-- workers have served their clients from them
pub record AreLogs (s : Service) (logs : List (ℕ × Published)) : Type 0 where
  pub guilds : guilds_of logs ≡ ascending s.guilds
  pub texts : List (List ℕ)
  pub texts_are : AllZip IsTextOf s.files texts
  pub wished : List (List (ℕ × Edit))
  pub merged : All (IsMergedLog (sendings texts wished)) logs
  pub workers : AllZip (WorkerRan s logs) (range_with_len 0 (length s.doors)) wished

-- how many requests were for guilds that no file declares: each sender has sent its edits, each by the pass that its guild
-- goes by; the two actors have taken all of them; and this is how many of them were for none of the guilds of either
pub record AreTaken (guilds : List ℕ) (senders : List (List (ℕ × Edit))) (strays : ℕ) : Type 0 where
  pub posts : List PostId
  pub passes : List (List Sender)
  pub sent : HaveSent posts guilds 0 senders passes
  pub first : Taker
  pub second : Taker
  pub takers : AreTakers posts (first ∷ second ∷ [])
  pub whole : All (AreTakenWhole (first ∷ second ∷ [])) passes
  pub strays_are : strays ≡ min (counted (strays_of (dealt_to 0 guilds) first.taken) + counted (strays_of (dealt_to 1 guilds) second.taken)) (2 ^ 64 - 1)

-- what is settled when all parts have ended
pub record IsSettled (s : Service) (logs : List (ℕ × Published)) (strays : ℕ) : Type 0 where
  pub are_logs : AreLogs s logs
  pub taken : AreTaken (ascending s.guilds) (sendings are_logs.texts are_logs.wished) strays

-- what a run writes at its end
pub record IsServed (s : Service) (text : List ℕ) : Type 0 where
  pub logs : List (ℕ × Published)
  pub strays : ℕ
  pub settled : IsSettled s logs strays
  pub text_is : text ≡ guild_lines logs s.guilds ++ strays_line strays
