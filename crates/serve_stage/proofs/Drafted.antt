-- The parts that have nothing yet of what a house lends, and that they are ready.
use Rattle.std.proofs.Common.{◌≡◌, ℕ, ◌+◌, ◌<◌, List, map, drop, length, sym, subst}
use Rattle.std.specs.Prelude.{All}
use Rattle.edit_post.specs.Post.{PostId}
use Rattle.session_core.specs.declared.bot.Bot.{Bot}
use Rattle.gate_parts.specs.Ready.{CanSend, CanWork}
use Rattle.run_ends.specs.Senders.{new_passes}
use Rattle.run_stage.specs.Hubs.{Has, new_reader}
use Rattle.run_stage.specs.Posts.{ArePassesOf}
use Rattle.run_stage.proofs.Numbered.{all_at, as_many, at_dropped, of_each, placed}
use Rattle.serve_stage.specs.declared.drafting.Parts.{Parts}
use Rattle.serve_stage.specs.declared.scripts.ScriptDraft.{ScriptDraft}
use Rattle.serve_stage.specs.declared.workers.WorkerDraft.{WorkerDraft}
use Rattle.serve_stage.specs.Drafts.{AreParts, IsScriptDraft, IsWorkerDraft, MaySend, MayWork}
use Rattle.serve_stage.proofs.Ready.{can_send, can_work}

module _ {R : Type 0} (posts : List PostId) (port : ℕ) (bots : List Bot) (guilds : List ℕ) (scripts workers : ℕ) (parts : Parts R)
    (are : AreParts posts port bots guilds scripts workers parts) where
  abbrev IsScriptHere : ℕ → ScriptDraft R → Type 0
  IsScriptHere = IsScriptDraft posts guilds are.passes

  abbrev IsWorkerHere : ℕ → WorkerDraft R → Type 0
  IsWorkerHere = IsWorkerDraft posts (drop scripts are.passes) are.readers bots guilds port

  -- the passes of a script
  pub script_passes : (n : ℕ) (draft : ScriptDraft R) → IsScriptHere n draft → draft.passes.items ≡ new_passes posts n
  script_passes n draft is = placed (ArePassesOf posts) (scripts + workers) are.passes n draft.passes are.passes_are is.passes_are

  -- the passes of a worker, which come after those of all scripts
  pub worker_passes : (n : ℕ) (draft : WorkerDraft R) → IsWorkerHere n draft → draft.passes.items ≡ new_passes posts (scripts + n)
  worker_passes n draft is =
      placed (ArePassesOf posts) (scripts + workers) are.passes (scripts + n) draft.passes are.passes_are (at_dropped scripts are.passes n draft.passes is.passes_are)

  -- the readers of a worker
  pub worker_readers : (n : ℕ) (draft : WorkerDraft R) → IsWorkerHere n draft → draft.readers.items ≡ map new_reader are.writers
  worker_readers n draft is = all_at (Has (map new_reader are.writers)) are.readers n draft.readers are.hubs_are.readers_are.each_has is.readers_are

  may_send : 0 < length posts → (n : ℕ) (draft : ScriptDraft R) → IsScriptHere n draft → MaySend draft
  may_send some n draft is =
      subst (λ l. CanSend l draft.passes.items) (sym is.posts_are) (can_send posts n draft.passes.items some (script_passes n draft is))

  may_work : 0 < length posts → (n : ℕ) (draft : WorkerDraft R) → IsWorkerHere n draft → MayWork draft
  may_work some n draft is =
      subst (λ l. CanWork l draft.passes.items draft.readers.items) (sym is.posts_are)
      (can_work guilds posts (scripts + n) draft.passes.items are.writers draft.readers.items some (worker_passes n draft is) are.hubs_are.writers_are are.distinct (worker_readers n draft is))

  pub all_may_send : 0 < length posts → All MaySend parts.scripts.items
  all_may_send some = of_each IsScriptHere MaySend (may_send some) 0 scripts parts.scripts.items are.scripts_are

  pub all_may_work : 0 < length posts → All MayWork parts.workers.items
  all_may_work some = of_each IsWorkerHere MayWork (may_work some) 0 workers parts.workers.items are.workers_are

  pub as_many_scripts : length parts.scripts.items ≡ scripts
  as_many_scripts = as_many IsScriptHere 0 scripts parts.scripts.items are.scripts_are

  pub as_many_workers : length parts.workers.items ≡ workers
  as_many_workers = as_many IsWorkerHere 0 workers parts.workers.items are.workers_are
