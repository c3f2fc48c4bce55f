-- Workers that have served: what each has sent, and what it knows of the sealed logs.
use Rattle.std.proofs.Common.{◌≡◌, ℕ, zero, suc, ◌+◌, List, [], ◌∷◌, map, flat_map, length, Ok, refl, sym, ap, ◌∙◌, subst, arith}
use Rattle.std.specs.List.{All, AllZip, range_with_len}
use Rattle.std.proofs.lemmas.List.Elements.{All-nil, All-head, All-tail, All-append}
use Rattle.collections.specs.ById.{IsById}
use Rattle.edit_apply.specs.declared.Edit.{Edit}
use Rattle.edit_post.specs.Post.{PostId, Sender}
use Rattle.guild_places.specs.Places.{guilds_of}
use Rattle.guild_posts.specs.Posts.{AreSent}
use Rattle.load_settle.specs.Readers.{HasLog}
use Rattle.worker_run.specs.Histories.{History, wishes, inputs}
use Rattle.worker_run.specs.Hubs.{IsUnread, Reads, HasSeenAll}
use Rattle.worker_run.specs.Works.{Works}
use Rattle.worker_run.specs.declared.report.WorkReport.{WorkReport}
use Rattle.gate_parts.specs.declared.ending.Ending.TheVariants.{Ran}
use Rattle.gate_parts.specs.Workers.{WorksOrStops}
use Rattle.run_stage.specs.Hubs.{new_reader}
use Rattle.run_stage.proofs.Written.{guilds_of_readers}
use Rattle.run_ends.specs.Logs.{HasPart}
use Rattle.run_ends.specs.Senders.{HasSent, HaveSent}
use Rattle.run_ends.proofs.Ending.{All-first}
use Rattle.gate_ends.specs.Done.{HasServed}
use Rattle.gate_ends.specs.Ends.{WorkerServes}
use Rattle.gate_ends.specs.declared.ending.WorkerEnd.{WorkerEnd}
use Rattle.gate_ends.proofs.Readers.{All-second, unread, readers_of}
use Rattle.gate_ends.proofs.Sealed.{Reader, ReadsLog, log_of, all_have_logs, all_known}
use Rattle.gate_ends.proofs.Writers.{Writer, Log, guild_of, IsSealedOf}

abbrev Sending : Type 0
Sending = ℕ × Edit

abbrev pub worker_passes : WorkerEnd → List Sender
worker_passes e = e.passes.items

abbrev pub readers : WorkerEnd → List Reader
readers e = e.readers.items

-- workers of which is known how each served by its number, as senders after so many others
module _ (posts : List PostId) (writers : List Writer) (first : ℕ) (Is : ℕ → WorkerEnd → Type 0) (serves : (n : ℕ) (e : WorkerEnd) → Is n e → WorkerServes posts writers (first + n) e) where
  -- a worker that has served
  pub record Served (number : ℕ) (e : WorkerEnd) : Type 0 where
    pub is : Is number e
    pub report : WorkReport
    pub history : History
    pub works : Works (serves number e is).worker history (serves number e is).before (serves number e is).after (Ok report)

  served : (number : ℕ) (e : WorkerEnd) → Is number e → HasServed e → Served number e
  served number e is has =
      let how = serves number e is in
      let works : WorksOrStops how.worker how.before (Ran (Ok has.0)) how.after = subst (λ x. WorksOrStops how.worker how.before x how.after) has.1 how.works in
      record { is = is; report = has.0; history = works.0; works = works.1 }

  -- worker by worker, the first of which has this number; these edits their clients asked for
  abbrev pub AllServed : ℕ → List WorkerEnd → List (List Sending) → Type 0
  AllServed number [] [] = Unit {0}
  AllServed number [] (wished ∷ more) = ⊥
  AllServed number (e ∷ es) [] = ⊥
  AllServed number (e ∷ es) (wished ∷ more) = ((w : Served number e) × (wishes w.history ≡ wished)) × AllServed (number + 1) es more

  pub all_served : (k n : ℕ) (es : List WorkerEnd) → AllZip Is (range_with_len k n) es → All HasServed es → (wished : List (List Sending)) × AllServed k es wished
  all_served k zero [] h all = ([], tt)
  all_served k zero (e ∷ es) h all = elim h [ ]
  all_served k (suc n) [] h all = elim h [ ]
  all_served k (suc n) (e ∷ es) h all =
      let w = served k e h.0 (All-head HasServed e es all) in
      let more = all_served (k + 1) n es h.1 (All-tail HasServed e es all) in
      (wishes w.history ∷ more.0, ((w, refl), more.1))

  pub many_wished : (k : ℕ) (es : List WorkerEnd) (wished : List (List Sending)) → AllServed k es wished → length wished ≡ length es
  many_wished k [] [] h = refl
  many_wished k [] (w ∷ ws) h = elim h [ ]
  many_wished k (e ∷ es) [] h = elim h [ ]
  many_wished k (e ∷ es) (w ∷ ws) h = ap suc (many_wished (k + 1) es ws h.1)

  -- ---- what they have sent

  module _ (guilds : List ℕ) (ids : guilds_of writers ≡ guilds) where
    has_sent : (number : ℕ) (e : WorkerEnd) → (w : Served number e) → HasSent posts guilds (first + number) (wishes w.history) e.passes.items
    has_sent number e w =
        let how = serves number e w.is in
        record {
          sent = w.works.sent;
          are = subst (λ (xs : List Sender). AreSent guilds (wishes w.history) xs w.works.sent) how.passes_before
              (subst (λ (l : List ℕ). AreSent l (wishes w.history) how.before.passes w.works.sent) (ap guilds_of how.readers_before ∙ guilds_of_readers writers ∙ ids) w.works.wishes);
          ended = sym how.passes_after ∙ w.works.passes;
        }

    next_sender : (k : ℕ) → first + (k + 1) ≡ first + k + 1
    next_sender k = omega (arith)

    pub workers_sent : (k : ℕ) (es : List WorkerEnd) (wished : List (List Sending)) → AllServed k es wished → HaveSent posts guilds (first + k) wished (map worker_passes es)
    workers_sent k [] [] h = tt
    workers_sent k [] (w ∷ ws) h = elim h [ ]
    workers_sent k (e ∷ es) [] h = elim h [ ]
    workers_sent k (e ∷ es) (w ∷ ws) h = (
      subst (λ (edits : List Sending). HasSent posts guilds (first + k) edits e.passes.items) h.0.1 (has_sent k e h.0.0),
      subst (λ (i : ℕ). HaveSent posts guilds i ws (map worker_passes es)) (next_sender k) (workers_sent (k + 1) es ws h.1),
    )

  -- ---- what they know of the sealed logs

  pub knew_none : (number : ℕ) (e : WorkerEnd) (w : Served number e) → All IsUnread (serves number e w.is).before.readers
  knew_none number e w = subst (λ (rs : List Reader). All IsUnread rs) (sym (serves number e w.is).readers_before) (unread writers)

  module _ (ls : List Log) (sealed : AllZip IsSealedOf writers ls) (up : IsById guild_of ls) where
    of_worker : (number : ℕ) (e : WorkerEnd) → Served number e → AllZip ReadsLog ls (readers e)
    of_worker number e w =
        let how = serves number e w.is in
        readers_of (inputs w.history) writers ls (readers e) sealed
        (subst (λ (rs : List Reader). AllZip (Reads (inputs w.history)) (map new_reader writers) rs) how.readers_after
        (subst (λ (rs : List Reader). AllZip (Reads (inputs w.history)) rs how.after.readers) how.readers_before w.works.readers))

    pub have_logs : (k : ℕ) (es : List WorkerEnd) (wished : List (List Sending)) → AllServed k es wished → All (HasLog ls) (flat_map readers es)
    have_logs k [] [] h = All-nil (HasLog ls)
    have_logs k [] (w ∷ ws) h = elim h [ ]
    have_logs k (e ∷ es) [] h = elim h [ ]
    have_logs k (e ∷ es) (w ∷ ws) h = All-append (HasLog ls) (readers e) (flat_map readers es) (all_have_logs ls (readers e) up (of_worker k e h.0.0)) (have_logs (k + 1) es ws h.1)

    pub knows_all : (number : ℕ) (e : WorkerEnd) (w : Served number e) → All (HasPart ls) (readers e) → map log_of (serves number e w.is).after.readers ≡ ls
    knows_all number e w part =
        let how = serves number e w.is in
        ap (map log_of) how.readers_after ∙ all_known ls (readers e) up (of_worker number e w) part (subst (λ (rs : List Reader). All HasSeenAll rs) how.readers_after w.works.answers.0.logs)

-- what follows of each worker follows of all
module _ (posts : List PostId) (writers : List Writer) (first : ℕ) (Is : ℕ → WorkerEnd → Type 0) (serves : (n : ℕ) (e : WorkerEnd) → Is n e → WorkerServes posts writers (first + n) e) (ls : List Log)
    (HasRun : ℕ → List Sending → Type 0)
    (one_ran : (number : ℕ) (e : WorkerEnd) (wished : List Sending) (w : Served posts writers first Is serves number e) → wishes w.history ≡ wished → All (HasPart ls) (readers e) → HasRun number wished) where
  pub all_ran : (k : ℕ) (es : List WorkerEnd) (wished : List (List Sending)) → AllServed posts writers first Is serves k es wished → All (HasPart ls) (flat_map readers es)
      → AllZip HasRun (range_with_len k (length es)) wished
  all_ran k [] [] h part = tt
  all_ran k [] (w ∷ ws) h part = elim h [ ]
  all_ran k (e ∷ es) [] h part = elim h [ ]
  all_ran k (e ∷ es) (w ∷ ws) h part = (
    one_ran k e w h.0.0 h.0.1 (All-first (HasPart ls) (readers e) (flat_map readers es) part),
    all_ran (k + 1) es ws h.1 (All-second (HasPart ls) (readers e) (flat_map readers es) part),
  )
