-- What follows of the parts of a run.
use Rattle.std.proofs.Common.{◌≡◌, ℕ, ◌+◌, List, [], ◌∷◌, map, drop, length, sym, ap, subst, ◌∙◌}
use Rattle.std.specs.Prelude.{All}
use Rattle.std.specs.List.{AllZip}
use Rattle.std.specs.Global.{Vec}
use Rattle.std.proofs.lemmas.List.Elements.{All-append, All-map}
use Rattle.edit_post.specs.Post.{PostId}
use Rattle.guild_hub.specs.Writes.{Publishing}
use Rattle.guild_posts.specs.Posts.{ArePasses}
use Rattle.session_core.specs.declared.bot.Bot.{Bot}
use Rattle.stop_flag.specs.Flags.{KeeperState, SeatState}
use Rattle.world_law.specs.Model.{first_worker}
use Rattle.worker_core.specs.Represents.{Represents}
use Rattle.gate_parts.specs.declared.actor_part.ActorPart.{ActorPart}
use Rattle.run_stage.specs.Dealing.{AreFrom}
use Rattle.run_stage.specs.Hubs.{IsReaderOf}
use Rattle.run_stage.proofs.Dealt.{woven_back}
use Rattle.run_stage.proofs.Numbered.{of_each, placed, weaker}
use Rattle.run_stage.proofs.Passes.{are_passes}
use Rattle.run_stage.proofs.Posted.{taker_posts}
use Rattle.run_stage.proofs.Written.{distinct_guilds, guilds_are, readers_of}
use Rattle.serve_heads.specs.declared.script_file.ScriptFile.{ScriptFile}
use Rattle.serve_parts.specs.declared.file_part.FilePart.{FilePart}
use Rattle.serve_stage.specs.declared.drafting.Draft.{Draft}
use Rattle.serve_stage.specs.declared.drafting.Parts.{Parts}
use Rattle.serve_stage.specs.declared.lent.Lent.{Lent}
use Rattle.serve_stage.specs.Drafts.{AreParts, IsDraft, IsFiledScript, IsHousedWorker, IsScriptDraft, IsWorkerDraft}
use Rattle.serve_stage.specs.Parts.{Served, IsActor, IsScript, IsWorker}
use Rattle.serve_stage.specs.Stages.{IsStage}
use Rattle.serve_stage.specs.Urls.{worker_url}
use Rattle.serve_stage.proofs.Drafted.{script_passes, worker_passes, worker_readers}

module _ {R : Type 0} (posts : List PostId) where
  -- the posts of the actors' passes
  takers_follow : (senders : ℕ) (writers : List (ℕ × Publishing)) (actors : List (ActorPart R)) → length posts ≡ 2
      → AreFrom (IsActor posts senders writers) 0 2 actors → map (λ (part : ActorPart R). part.pass.post) actors ≡ posts
  takers_follow senders writers [] two all = absurd all
  takers_follow senders writers (a ∷ []) two all = absurd all.1
  takers_follow senders writers (a ∷ b ∷ c ∷ cs) two all = absurd all.1.1
  takers_follow senders writers (a ∷ b ∷ []) two all = taker_posts senders posts a.pass b.pass two all.0.pass_is all.1.0.pass_is

  module _ {S : Type 0} (guilds : List ℕ) (files : List (ScriptFile S)) (count : ℕ) (scripts : List (FilePart S R)) (all : AreFrom (IsScript posts guilds files) 0 count scripts) where
    scripts_pass : All (ArePasses posts) (map (λ (part : FilePart S R). part.passes.items) scripts)
    scripts_pass =
        All-map (ArePasses posts) (λ (part : FilePart S R). part.passes.items) scripts
        (of_each (IsScript posts guilds files) (λ (part : FilePart S R). ArePasses posts part.passes.items) (λ n part is. are_passes posts n part.passes.items is.passes_are) 0 count scripts all)

  module _ {D C : Type 0} (first : ℕ) (writers : List (ℕ × Publishing)) (bots : List Bot) (guilds : List ℕ) (port : ℕ) (doors : List D) (clocks : List C) (count : ℕ) (workers : List (Served D C R))
      (all : AreFrom (IsWorker posts first writers bots guilds port doors clocks) 0 count workers) where
    workers_pass : All (ArePasses posts) (map (λ (part : Served D C R). part.passes.items) workers)
    workers_pass =
        All-map (ArePasses posts) (λ (part : Served D C R). part.passes.items) workers
        (of_each (IsWorker posts first writers bots guilds port doors clocks) (λ (part : Served D C R). ArePasses posts part.passes.items)
        (λ n part is. are_passes posts (first + n) part.passes.items is.passes_are) 0 count workers all)

    workers_read : All (λ (part : Served D C R). AllZip IsReaderOf writers part.readers.items) workers
    workers_read =
        of_each (IsWorker posts first writers bots guilds port doors clocks) (λ (part : Served D C R). AllZip IsReaderOf writers part.readers.items)
        (λ n part is. subst (AllZip IsReaderOf writers) (sym is.readers_are) (readers_of writers)) 0 count workers all

module _ {R : Type 0} (posts : List PostId) (port : ℕ) (bots : List Bot) (guilds : List ℕ) (scripts workers : ℕ) (parts : Parts R)
    (are : AreParts posts port bots guilds scripts workers parts) where
  module _ {S : Type 0} (files : List (ScriptFile S)) where
    script_is : (n : ℕ) (part : FilePart S R) → IsFiledScript parts.scripts.items files n part → IsScript posts guilds files n part
    script_is n part is =
        let of = is.is_of in
        let d = placed (IsScriptDraft posts guilds are.passes) scripts parts.scripts.items n is.draft are.scripts_are is.is_draft in
        record {
          posts_are = of.posts_are ∙ d.posts_are;
          passes_are = ap (λ v. v.items) of.passes_are ∙ script_passes posts port bots guilds scripts workers parts are n is.draft d;
          index_is = ap (λ i. i.keys) of.index_is ∙ d.index_is;
          file_is = is.is_file;
        }

    scripts_follow : (filed : List (FilePart S R)) → AreFrom (IsFiledScript parts.scripts.items files) 0 scripts filed → AreFrom (IsScript posts guilds files) 0 scripts filed
    scripts_follow filed all = weaker _ _ script_is 0 scripts filed all

  module _ {D C : Type 0} (doors : List D) (clocks : List C) where
    worker_is : (n : ℕ) (part : Served D C R) → IsHousedWorker parts.workers.items doors clocks n part → IsWorker posts scripts are.writers bots guilds port doors clocks n part
    worker_is n part is =
        let of = is.is_of in
        let d = placed (IsWorkerDraft posts (drop scripts are.passes) are.readers bots guilds port) workers parts.workers.items n is.draft are.workers_are is.is_draft in
        record {
          posts_are = of.posts_are ∙ d.posts_are;
          passes_are = ap (λ v. v.items) of.passes_are ∙ worker_passes posts port bots guilds scripts workers parts are n is.draft d;
          readers_are = ap (λ v. v.items) of.readers_are ∙ worker_readers posts port bots guilds scripts workers parts are n is.draft d;
          worker_is = subst (λ k. Represents k (first_worker bots guilds n (worker_url port n))) (sym of.worker_is) d.worker_is;
          door_is = is.is_door;
          clock_is = is.is_clock;
        }

    workers_follow : (housed : List (Served D C R)) → AreFrom (IsHousedWorker parts.workers.items doors clocks) 0 workers housed
        → AreFrom (IsWorker posts scripts are.writers bots guilds port doors clocks) 0 workers housed
    workers_follow housed all = weaker _ _ worker_is 0 workers housed all

-- a draft whose scripts and workers have what was lent is all that a run begins with
pub staged : {S D C R : Type 0} (port : ℕ) (bots : List Bot) (guilds : List ℕ) (lent : Lent S D C) (draft : Draft R) (keeper : KeeperState) (seat : SeatState)
    (scripts : Vec (FilePart S R)) (workers : Vec (Served D C R)) → IsDraft port bots guilds (length lent.files.items) (length lent.doors.items) draft
    → AreFrom (IsFiledScript draft.parts.scripts.items lent.files.items) 0 (length lent.files.items) scripts.items
    → AreFrom (IsHousedWorker draft.parts.workers.items lent.doors.items lent.clocks.items) 0 (length lent.doors.items) workers.items
    → IsStage port bots guilds lent (record {
      posts = draft.ground.posts;
      word = draft.ground.word;
      keeper = keeper;
      seat = seat;
      actors = draft.parts.actors;
      scripts = scripts;
      workers = workers;
    })
staged port bots guilds lent draft keeper seat scripts workers is filed housed =
    let posts = draft.ground.posts in
    let are = is.parts_are in
    let files = lent.files.items in
    let doors = lent.doors.items in
    let clocks = lent.clocks.items in
    let many = length files in
    let more = length doors in
    let writers = are.writers in
    let actors = draft.parts.actors.items in
    let with_files = scripts_follow posts port bots guilds many more draft.parts are files scripts.items filed in
    let with_doors = workers_follow posts port bots guilds many more draft.parts are doors clocks workers.items housed in
    record {
      writers = writers;
      two_posts = is.two;
      new_writers = are.hubs_are.writers_are;
      actors_are = are.actors_are;
      scripts_are = with_files;
      workers_are = with_doors;
      takers_are = takers_follow posts (many + more) writers actors is.two are.actors_are;
      senders_are = All-append (ArePasses posts) (map (λ part. part.passes.items) scripts.items) (map (λ part. part.passes.items) workers.items)
          (scripts_pass posts guilds files many scripts.items with_files) (workers_pass posts many writers bots guilds port doors clocks more workers.items with_doors);
      readers_are = workers_read posts many writers bots guilds port doors clocks more workers.items with_doors;
      woven_are = woven_back writers;
      guilds_are = guilds_are guilds writers are.hubs_are.writers_are;
      distinct = distinct_guilds guilds writers are.hubs_are.writers_are are.distinct;
    }
