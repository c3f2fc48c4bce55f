-- What is settled of a load whose parts have ended without a fault.
use Rattle.std.proofs.Common.{◌≡◌, ℕ, ◌+◌, List, [], ◌∷◌, ◌++◌, map, flat_map, length, refl, sym, ap, ◌∙◌, subst}
use Rattle.std.specs.List.{All, AllZip, range_with_len}
use Rattle.std.proofs.lemmas.List.{length-append}
use Rattle.edit_apply.specs.declared.Edit.{Edit}
use Rattle.edit_post.specs.Post.{PostId, Sender}
use Rattle.edit_post.specs.declared.send_refused.SendRefused.{SendRefused}
use Rattle.guild_actor.specs.declared.report.ActReport.{ActReport}
use Rattle.gate_parts.specs.declared.actor_part.ActorDone.{ActorDone}
use Rattle.load_maker.specs.Script.{script}
use Rattle.script_run.specs.Scripts.{edits_in}
use Rattle.load_settle.specs.Readers.{HasLog}
use Rattle.load_stage.specs.Guilds.{guild_ids}
use Rattle.run_stage.proofs.Numbered.{as_many}
use Rattle.run_ends.specs.Lists.{woven}
use Rattle.run_ends.specs.Senders.{HaveSent, HaveEnded, AreTakenWhole}
use Rattle.run_ends.specs.Logs.{HasPart}
use Rattle.run_ends.proofs.Merging.{all_ended, sent_after}
use Rattle.gate_ends.specs.Done.{HasSentAll, HasServed, AreReports}
use Rattle.gate_ends.specs.declared.ending.ScriptEnd.{ScriptEnd}
use Rattle.gate_ends.specs.declared.ending.WorkerEnd.{WorkerEnd}
use Rattle.gate_ends.proofs.Acted.{BothActed, ids, sealed, log_guilds, ascend, merged}
use Rattle.gate_ends.proofs.Served.{AllServed, worker_passes, readers, all_served, many_wished, workers_sent, have_logs, all_ran}
use Rattle.gate_ends.proofs.Settled.{script_passes}
use Rattle.gate_ends.proofs.Writers.{Log}
use Rattle.load_run.specs.Joined.{Joined, WorkerEnds}
use Rattle.load_run.specs.Loads.{AreLogs, WorkerRan, sendings}
use Rattle.load_run.proofs.Guilds.{ids_ascend}
use Rattle.load_run.proofs.Senders.{scripts_sent, serves, one_ran}

module _ {R : Type 0} {seed : ℕ} {posts : List PostId} {actors : List (ActorDone R)} {scripts : List (ScriptEnd SendRefused)} {workers : List WorkerEnd} (j : Joined seed posts actors scripts workers)
    {r0 r1 : ActReport R} (reports : AreReports actors r0 r1) (sent : All HasSentAll scripts) (served : All HasServed workers) where
  pub both : BothActed posts 7 guild_ids j.writers r0 r1
  both = record { two = j.two; up = ids_ascend 1 8; writers_are = j.writers_are; actors = actors; actors_are = j.actors_are; reports = reports }

  abbrev logs : List Log
  logs = woven r0.logs.items r1.logs.items

  abbrev pub passes : List (List Sender)
  passes = map script_passes scripts ++ map worker_passes workers

  all : (wished : List (List (ℕ × Edit))) × AllServed posts j.writers 4 (WorkerEnds posts j.writers) (serves posts j.writers) 0 workers wished
  all = all_served posts j.writers 4 (WorkerEnds posts j.writers) (serves posts j.writers) 0 3 workers j.workers_are served

  abbrev wished : List (List (ℕ × Edit))
  wished = all.0

  three : length workers ≡ 3
  three = as_many (WorkerEnds posts j.writers) 0 3 workers j.workers_are

  seven : 7 ≡ length (sendings seed wished)
  seven = sym (length-append (map (λ part. edits_in (script seed part)) (range_with_len 0 4)) wished
      ∙ ap (λ n. 4 + n) (many_wished posts j.writers 4 (WorkerEnds posts j.writers) (serves posts j.writers) 0 workers wished all.1 ∙ three))

  have : HaveSent posts guild_ids 0 (sendings seed wished) passes
  have = sent_after posts guild_ids 0 4 (map (λ part. edits_in (script seed part)) (range_with_len 0 4)) wished (map script_passes scripts) (map worker_passes workers) refl
      (scripts_sent seed posts 0 4 scripts j.scripts_are sent) (workers_sent posts j.writers 4 (WorkerEnds posts j.writers) (serves posts j.writers) guild_ids (ids both) 0 workers wished all.1)

  pub have_ended : All (HaveEnded posts) passes
  have_ended = all_ended posts guild_ids 0 (sendings seed wished) passes have

  pub logs_there : All (HasLog logs) (flat_map readers workers)
  logs_there = have_logs posts j.writers 4 (WorkerEnds posts j.writers) (serves posts j.writers) logs (sealed both) (ascend both) 0 workers wished all.1

  pub are_logs : All (AreTakenWhole (r0.pass ∷ r1.pass ∷ [])) passes → All (HasPart logs) (flat_map readers workers) → AreLogs seed logs
  are_logs whole part = record {
    guilds = log_guilds both;
    wished = wished;
    merged = merged both (sendings seed wished) passes have seven whole;
    workers = subst (λ n. AllZip (WorkerRan logs) (range_with_len 0 n) wished) three
        (all_ran posts j.writers 4 (WorkerEnds posts j.writers) (serves posts j.writers) logs (WorkerRan logs) (one_ran posts j.writers logs (sealed both) (ascend both)) 0 workers wished all.1 part);
  }
