-- What the scripts of a load have sent, and what each of its workers has done.
use Rattle.std.proofs.Common.{◌≡◌, ℕ, zero, suc, ◌+◌, List, [], ◌∷◌, map, Ok, subst}
use Rattle.std.specs.List.{All, AllZip, range_with_len}
use Rattle.std.proofs.lemmas.List.Elements.{All-head, All-tail}
use Rattle.collections.specs.ById.{IsById}
use Rattle.edit_apply.specs.declared.Edit.{Edit}
use Rattle.edit_post.specs.Post.{PostId}
use Rattle.edit_post.specs.declared.send_refused.SendRefused.{SendRefused}
use Rattle.script_run.specs.Scripts.{edits_in}
use Rattle.load_maker.specs.Script.{script}
use Rattle.worker_run.specs.Histories.{wishes}
use Rattle.gate_parts.specs.declared.ending.Ending.TheVariants.{Ran}
use Rattle.gate_parts.specs.Scripts.{Sends}
use Rattle.run_ends.specs.Logs.{HasPart}
use Rattle.run_ends.specs.Senders.{new_passes, HaveSent}
use Rattle.load_stage.specs.Guilds.{guild_ids}
use Rattle.gate_ends.specs.Done.{HasSentAll}
use Rattle.gate_ends.specs.Ends.{WorkerServes}
use Rattle.gate_ends.specs.declared.ending.ScriptEnd.{ScriptEnd}
use Rattle.gate_ends.specs.declared.ending.WorkerEnd.{WorkerEnd}
use Rattle.gate_ends.proofs.Served.{Served, readers, knew_none, knows_all}
use Rattle.gate_ends.proofs.Settled.{script_passes}
use Rattle.gate_ends.proofs.Writers.{Writer, Log, guild_of, IsSealedOf}
use Rattle.load_run.specs.Joined.{ScriptEnds, WorkerEnds}
use Rattle.load_run.specs.Loads.{WorkerRan}

-- scripts that have sent all
pub scripts_sent : (seed : ℕ) (posts : List PostId) (k n : ℕ) (es : List (ScriptEnd SendRefused)) → AllZip (ScriptEnds seed posts) (range_with_len k n) es → All HasSentAll es
    → HaveSent posts guild_ids k (map (λ part. edits_in (script seed part)) (range_with_len k n)) (map script_passes es)
scripts_sent seed posts k zero [] h all = tt
scripts_sent seed posts k zero (e ∷ es) h all = elim h [ ]
scripts_sent seed posts k (suc n) [] h all = elim h [ ]
scripts_sent seed posts k (suc n) (e ∷ es) h all =
    let sends : Sends guild_ids (script seed k) (new_passes posts k) (Ran (Ok tt)) e.passes.items =
    subst (λ x. Sends guild_ids (script seed k) (new_passes posts k) x e.passes.items) (All-head HasSentAll e es all) h.0 in
    (record { sent = sends.0; are = sends.1; ended = sends.2 }, scripts_sent seed posts (k + 1) n es h.1 (All-tail HasSentAll e es all))

-- ---- workers

module _ (posts : List PostId) (writers : List Writer) where
  pub serves : (n : ℕ) (e : WorkerEnd) → WorkerEnds posts writers n e → WorkerServes posts writers (4 + n) e
  serves n e ends = ends.serves

  abbrev pub HasWorked : ℕ → WorkerEnd → Type 0
  HasWorked = Served posts writers 4 (WorkerEnds posts writers) serves

  pub one_ran : (ls : List Log) → AllZip IsSealedOf writers ls → IsById guild_of ls → (n : ℕ) (e : WorkerEnd) (wished : List (ℕ × Edit)) (w : HasWorked n e) → wishes w.history ≡ wished
      → All (HasPart ls) (readers e) → WorkerRan ls n wished
  unfolding serves
  one_ran ls sealed up n e wished w is part = record {
    worker = w.is.serves.worker;
    is_new = w.is.is_new;
    history = w.history;
    before = w.is.serves.before;
    after = w.is.serves.after;
    report = w.report;
    works = w.works;
    unread = knew_none posts writers 4 (WorkerEnds posts writers) serves n e w;
    logs_are = knows_all posts writers 4 (WorkerEnds posts writers) serves ls sealed up n e w part;
    wished_are = is;
  }
