-- What is settled of a run whose parts have ended without a fault.
use Rattle.std.proofs.Common.{◌≡◌, ℕ, ◌+◌, ◌-◌, ◌^◌, min, List, [], ◌∷◌, ◌++◌, map, flat_map, length, sym, ap₂, ◌∙◌, subst, arith}
use Rattle.std.specs.List.{All, AllZip, range_with_len}
use Rattle.std.proofs.lemmas.List.{length-append, length-map}
use Rattle.edit_apply.specs.declared.Edit.{Edit}
use Rattle.edit_post.specs.Post.{PostId, Sender}
use Rattle.guild_actor.specs.declared.report.ActReport.{ActReport}
use Rattle.gate_parts.specs.declared.actor_part.ActorDone.{ActorDone}
use Rattle.load_settle.specs.Readers.{HasLog}
use Rattle.run_stage.proofs.Numbered.{as_many}
use Rattle.run_ends.specs.Lists.{woven}
use Rattle.run_ends.specs.Senders.{HaveSent, HaveEnded, AreTakenWhole}
use Rattle.run_ends.specs.Logs.{HasPart}
use Rattle.run_ends.proofs.Merging.{all_ended, sent_after}
use Rattle.gate_ends.specs.Done.{HasSentAll, HasServed, AreReports}
use Rattle.gate_ends.specs.declared.ending.WorkerEnd.{WorkerEnd}
use Rattle.gate_ends.proofs.Acted.{BothActed, takers, ids, sealed, log_guilds, ascend, merged, strays_of_first, strays_of_second}
use Rattle.gate_ends.proofs.Served.{AllServed, worker_passes, readers, all_served, many_wished, workers_sent, have_logs, all_ran}
use Rattle.gate_ends.proofs.Settled.{script_passes}
use Rattle.gate_ends.proofs.Writers.{Log}
use Rattle.serve_run.specs.Ends.{Joined, WorkerEnds}
use Rattle.serve_run.specs.Files.{FileEnd}
use Rattle.serve_run.specs.Served.{IsSettled, WorkerRan, sendings}
use Rattle.serve_run.specs.Services.{Service, ascending, senders}
use Rattle.serve_run.proofs.Ascending.{ascends}
use Rattle.serve_run.proofs.Sendings.{scripts_sent, texts_of, TextAt, edits_in_text}
use Rattle.serve_run.proofs.Workers.{serves, one_ran}

module _ {R : Type 0} {s : Service} {posts : List PostId} {actors : List (ActorDone R)} {scripts : List FileEnd} {workers : List WorkerEnd} (j : Joined s posts actors scripts workers)
    {r0 r1 : ActReport R} (reports : AreReports actors r0 r1) (sent : All HasSentAll scripts) (served : All HasServed workers) where
  abbrev gs : List ℕ
  gs = ascending s.guilds

  pub both : BothActed posts (senders s) gs j.writers r0 r1
  both = record { two = j.two; up = ascends s.guilds; writers_are = j.writers_are; actors = actors; actors_are = j.actors_are; reports = reports }

  abbrev logs : List Log
  logs = woven r0.logs.items r1.logs.items

  -- ---- what the scripts and the workers have sent

  abbrev pub passes : List (List Sender)
  passes = map script_passes scripts ++ map worker_passes workers

  texts_sent : (texts : List (List ℕ)) × (AllZip (TextAt s posts) (range_with_len 0 (length s.files)) texts × HaveSent posts gs 0 (map edits_in_text texts) (map script_passes scripts))
  texts_sent = scripts_sent s posts 0 (length s.files) scripts j.scripts_are sent

  abbrev texts : List (List ℕ)
  texts = texts_sent.0

  many_texts : length (map edits_in_text texts) ≡ length s.files
  many_texts = length-map texts edits_in_text ∙ as_many (TextAt s posts) 0 (length s.files) texts texts_sent.1.0

  all : (wished : List (List (ℕ × Edit))) × AllServed posts j.writers (length s.files) (WorkerEnds s posts j.writers) (serves s posts j.writers) 0 workers wished
  all = all_served posts j.writers (length s.files) (WorkerEnds s posts j.writers) (serves s posts j.writers) 0 (length s.doors) workers j.workers_are served

  abbrev wished : List (List (ℕ × Edit))
  wished = all.0

  wishes_sent : HaveSent posts gs (length s.files) wished (map worker_passes workers)
  wishes_sent = subst (λ n. HaveSent posts gs n wished (map worker_passes workers)) (omega (arith))
      (workers_sent posts j.writers (length s.files) (WorkerEnds s posts j.writers) (serves s posts j.writers) gs (ids both) 0 workers wished all.1)

  many_workers : length workers ≡ length s.doors
  many_workers = as_many (WorkerEnds s posts j.writers) 0 (length s.doors) workers j.workers_are

  all_senders : senders s ≡ length (sendings texts wished)
  all_senders = sym (length-append (map edits_in_text texts) wished
      ∙ ap₂ (λ (a b : ℕ). a + b) many_texts (many_wished posts j.writers (length s.files) (WorkerEnds s posts j.writers) (serves s posts j.writers) 0 workers wished all.1 ∙ many_workers))

  have : HaveSent posts gs 0 (sendings texts wished) passes
  have = sent_after posts gs 0 (length s.files) (map edits_in_text texts) wished (map script_passes scripts) (map worker_passes workers) (omega (arith, many_texts)) texts_sent.1.1 wishes_sent

  pub have_ended : All (HaveEnded posts) passes
  have_ended = all_ended posts gs 0 (sendings texts wished) passes have

  -- ---- the logs, and how many requests were for none of the guilds

  pub logs_there : All (HasLog logs) (flat_map readers workers)
  logs_there = have_logs posts j.writers (length s.files) (WorkerEnds s posts j.writers) (serves s posts j.writers) logs (sealed both) (ascend both) 0 workers wished all.1

  pub is_settled : (strays : ℕ) → strays ≡ min (r0.strays + r1.strays) (2 ^ 64 - 1) → All (AreTakenWhole (r0.pass ∷ r1.pass ∷ [])) passes → All (HasPart logs) (flat_map readers workers) → IsSettled s logs strays
  is_settled strays are_strays whole part = record {
    are_logs = record {
      guilds = log_guilds both;
      texts = texts;
      texts_are = texts_of s posts texts texts_sent.1.0;
      wished = wished;
      merged = merged both (sendings texts wished) passes have all_senders whole;
      workers = subst (λ n. AllZip (WorkerRan s logs) (range_with_len 0 n) wished) many_workers
          (all_ran posts j.writers (length s.files) (WorkerEnds s posts j.writers) (serves s posts j.writers) logs (WorkerRan s logs) (one_ran s posts j.writers logs (sealed both) (ascend both)) 0 workers wished all.1 part);
    };
    taken = record {
      posts = posts;
      passes = passes;
      sent = have;
      first = r0.pass;
      second = r1.pass;
      takers = takers both;
      whole = whole;
      strays_are = are_strays ∙ ap₂ (λ (a b : ℕ). min (a + b) (2 ^ 64 - 1)) (strays_of_first both) (strays_of_second both);
    };
  }
