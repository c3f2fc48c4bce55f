-- How the parts of a run have ended, from what was set up and what they gave.
use Rattle.std.proofs.Common.{◌≡◌, ℕ, ◌+◌, Bool, true, List, [], ◌++◌, map, flat_map, length, Option, None, sym, ap, ◌∙◌, subst, append-nil}
use Rattle.std.proofs.lemmas.List.{length-map}
use Rattle.std.specs.List.{All, AllZip}
use Rattle.std.specs.declared.option.Option.{Option as Known}
use Rattle.edit_post.specs.Post.{PostId}
use Rattle.gate_outside.specs.Clocks.{ClockTale}
use Rattle.gate_outside.specs.Doors.{DoorTale}
use Rattle.gate_parts.specs.Actors.{ActorGives}
use Rattle.gate_parts.specs.declared.actor_part.ActorDone.{ActorDone}
use Rattle.session_core.specs.declared.bot.Bot.{Bot}
use Rattle.serve_parts.specs.ByKind.{parts_of}
use Rattle.serve_parts.specs.Files.{FileGives}
use Rattle.serve_parts.specs.Kinds.{actor_of, script_of, worker_of}
use Rattle.serve_parts.specs.Parts.{ServeGives, DoorPartGives}
use Rattle.serve_parts.specs.declared.serve_part.ServePart.{ServePart}
use Rattle.serve_parts.specs.declared.serve_part.ServeDone.{ServeDone}
use Rattle.serve_parts.proofs.ByKind.{by_kind}
use Rattle.serve_stage.specs.Parts.{IsActor, IsScript, IsWorker}
use Rattle.serve_stage.specs.Stages.{IsStage, senders_of}
use Rattle.serve_stage.specs.declared.lent.Lent.{Lent}
use Rattle.serve_stage.specs.declared.stage.Stage.{Stage}
use Rattle.serve_run.specs.Ends.{FileEnds, WorkerEnds, Joined}
use Rattle.serve_run.specs.Faults.{first_fault}
use Rattle.serve_run.specs.Services.{Service, HasHead, service, ascending, senders}
use Rattle.serve_run.specs.Sorted.{IsEmpty, Sorts, file_end}
use Rattle.serve_run.specs.Files.{FileEnd}
use Rattle.serve_run.specs.declared.ends.Ends.{Ends}
use Rattle.serve_run.specs.declared.fault.ServeFault.{ServeFault}
use Rattle.gate_ends.specs.Done.{worker_end}
use Rattle.gate_ends.specs.Ends.{ActorEnds}
use Rattle.gate_ends.specs.declared.ending.WorkerEnd.{WorkerEnd}
use Rattle.gate_ends.proofs.Zips.{many_zip}
use Rattle.serve_run.specs.Causes.{ShowsFault}
use Rattle.serve_run.specs.Ended.{EndsSo, MayHave}
use Rattle.serve_run.specs.Lent.{IsStageOf, TellsLent}
use Rattle.serve_run.proofs.Counting.{two_actors, all_scripts, all_workers}
use Rattle.serve_run.proofs.Failing.{shows}
use Rattle.serve_run.proofs.Fronts.{ZipFront, ByKind, front_zip, kinds, numbered, numbered_map, all_numbered}
use Rattle.serve_run.proofs.Told.{many_files, many_doors, one_actor, one_script, one_worker, head_of}

-- all have ended as they have to, and none by a fault
pub joined : {R : Type 0} (s : Service) (posts : List PostId) (started : Bool) (actors : List (ActorDone R)) (scripts : List FileEnd) (workers : List WorkerEnd) (fault : Option ServeFault)
    → EndsSo s posts started actors scripts workers fault → started ≡ true → Joined s posts actors scripts workers
joined s posts started actors scripts workers fault e all =
    let many = e.whole all in
    record {
      two = e.two;
      writers = e.writers;
      writers_are = e.writers_are;
      actors_are = all_numbered (ActorEnds posts e.writers (senders s)) 0 2 actors e.actors_are many.0;
      scripts_are = all_numbered (FileEnds s posts) 0 (length s.files) scripts e.scripts_are many.1.0;
      workers_are = all_numbered (WorkerEnds s posts e.writers) 0 (length s.doors) workers e.workers_are many.1.1;
    }

-- the same where no part has a fault
pub all_joined : {R : Type 0} (s : Service) (posts its : List PostId) (started : Bool) (actors : List (ActorDone R)) (scripts : List FileEnd) (workers : List WorkerEnd) (fault : Option ServeFault)
    → its ≡ posts → EndsSo s posts started actors scripts workers fault → MayHave started fault → fault ≡ None → Joined s its actors scripts workers
all_joined s posts its started actors scripts workers fault same e may none =
    subst (λ p. Joined s p actors scripts workers) (sym same) (joined s posts started actors scripts workers fault e (subst (λ f. MayHave started f) none may))

-- the parts were set up from what is told of what was lent
pub stage_of : {S D C R : Type 0} (left : S → Known (List ℕ)) (faults : S → ℕ) (door_tale : D → DoorTale) (door_faults : D → ℕ) (clock_tale : C → ClockTale)
    (port : ℕ) (bots : List Bot) (guilds shown : List ℕ) (lent : Lent S D C) (stage : Stage S D C R) → shown ≡ guilds → IsStage port bots (ascending shown) lent stage
    → (s : Service) → TellsLent left faults door_tale door_faults clock_tale port bots guilds lent s → IsStageOf left faults door_tale door_faults clock_tale s stage
stage_of left faults door_tale door_faults clock_tale port bots guilds shown lent stage same is s tells = record {
  port = port;
  bots = bots;
  guilds = guilds;
  lent = lent;
  tells = tells;
  stage_is = subst (λ gs. IsStage port bots (ascending gs) lent stage) same is;
}

module _ {S D C R : Type 0} (left : S → Known (List ℕ)) (faults : S → ℕ) (door_tale : D → DoorTale) (door_faults : D → ℕ) (clock_tale : C → ClockTale) (stage : Stage S D C R)
    (front back : List (ServePart S D C R)) (dones : List (ServeDone S D C R)) (parts : parts_of stage.actors.items stage.scripts.items stage.workers.items ≡ front ++ back)
    (gave : AllZip (ServeGives left faults door_tale door_faults clock_tale) front dones) (started : Bool) (all : started ≡ true → back ≡ [])
    (none kept sorted : Ends S D C R) (empty : IsEmpty none) (same : kept ≡ record none { returned = kept.returned }) (sorts : Sorts dones kept sorted) (fault : Option ServeFault)
    (first : first_fault started sorted.actors.items sorted.scripts.items sorted.workers.items ≡ fault) where
  by : ByKind left faults door_tale door_faults clock_tale stage.actors.items stage.scripts.items stage.workers.items dones
  by = kinds left faults door_tale door_faults clock_tale stage.actors.items stage.scripts.items stage.workers.items dones
      (subst (λ l. ZipFront (ServeGives left faults door_tale door_faults clock_tale) l dones) (sym parts) (front_zip (ServeGives left faults door_tale door_faults clock_tale) front back dones gave))

  abbrev ended_actors : List (ActorDone R)
  ended_actors = flat_map actor_of dones

  abbrev ended_scripts : List FileEnd
  ended_scripts = map file_end (flat_map script_of dones)

  abbrev ended_workers : List WorkerEnd
  ended_workers = map worker_end (flat_map worker_of dones)

  actors_same : sorted.actors.items ≡ ended_actors
  actors_same = sorts.actors ∙ ap (λ (l : List (ActorDone R)). l ++ ended_actors) (ap (λ (e : Ends S D C R). e.actors.items) same ∙ empty.actors)

  scripts_same : sorted.scripts.items ≡ ended_scripts
  scripts_same = sorts.scripts ∙ ap (λ (l : List FileEnd). l ++ ended_scripts) (ap (λ (e : Ends S D C R). e.scripts.items) same ∙ empty.scripts)

  workers_same : sorted.workers.items ≡ ended_workers
  workers_same = sorts.workers ∙ ap (λ (l : List WorkerEnd). l ++ ended_workers) (ap (λ (e : Ends S D C R). e.workers.items) same ∙ empty.workers)

  first_is : first_fault started ended_actors ended_scripts ended_workers ≡ fault
  first_is =
      ap (λ (l : List (ActorDone R)). first_fault started l ended_scripts ended_workers) (sym actors_same)
      ∙ ap (λ (l : List FileEnd). first_fault started sorted.actors.items l ended_workers) (sym scripts_same)
      ∙ ap (λ (l : List WorkerEnd). first_fault started sorted.actors.items sorted.scripts.items l) (sym workers_same) ∙ first

  module _ (s : Service) (of : IsStageOf left faults door_tale door_faults clock_tale s stage) where
    abbrev its : Service
    its = service left faults door_tale door_faults clock_tale of.port of.bots of.guilds of.tells.heads of.lent

    heads_are : All HasHead its.files
    heads_are = subst (λ (x : Service). All HasHead x.files) of.tells.is of.tells.heads_are

    -- all parts, if all were started
    whole : started ≡ true → (length ended_actors ≡ 2) × ((length ended_scripts ≡ length its.files) × (length ended_workers ≡ length its.doors))
    whole every_one =
        let every = parts ∙ ap (λ l. front ++ l) (all every_one) ∙ append-nil front in
        let each = by_kind left faults door_tale door_faults clock_tale stage.actors.items stage.scripts.items stage.workers.items dones
        (subst (λ l. AllZip (ServeGives left faults door_tale door_faults clock_tale) l dones) (sym every) gave) in (
          many_zip ActorGives stage.actors.items (flat_map actor_of dones) each.actors_gave ∙ two_actors of.port of.bots (ascending of.guilds) of.lent stage of.stage_is,
          (
            length-map (flat_map script_of dones) file_end ∙ many_zip (FileGives left faults) stage.scripts.items (flat_map script_of dones) each.scripts_gave
                ∙ all_scripts of.port of.bots (ascending of.guilds) of.lent stage of.stage_is
                ∙ sym (many_files left faults door_tale door_faults clock_tale of.port of.bots of.guilds of.tells.heads of.lent of.tells.alike),
            length-map (flat_map worker_of dones) worker_end ∙ many_zip (DoorPartGives door_tale door_faults clock_tale) stage.workers.items (flat_map worker_of dones) each.workers_gave
                ∙ all_workers of.port of.bots (ascending of.guilds) of.lent stage of.stage_is
                ∙ sym (many_doors left faults door_tale door_faults clock_tale of.port of.bots of.guilds of.tells.heads of.lent of.tells.alike),
          ),
        )

    -- of the service as its outside tells it
    its_ends : EndsSo its stage.posts started ended_actors ended_scripts ended_workers fault
    its_ends =
        let is = of.stage_is in
        record {
          two = is.two_posts;
          writers = is.writers;
          writers_are = is.new_writers;
          actors_are = numbered (IsActor stage.posts (senders_of of.lent) is.writers) ActorGives (ActorEnds stage.posts is.writers (senders its))
              (one_actor left faults door_tale door_faults clock_tale of.port of.bots of.guilds of.tells.heads of.lent of.tells.alike stage.posts is.writers)
              0 2 stage.actors.items (flat_map actor_of dones) is.actors_are by.of_actors;
          scripts_are = numbered_map file_end (FileEnds its stage.posts) 0 (flat_map script_of dones)
              (numbered (IsScript stage.posts (ascending of.guilds) of.lent.files.items) (FileGives left faults) (λ n d. FileEnds its stage.posts n (file_end d))
              (one_script left faults door_tale door_faults clock_tale of.port of.bots of.guilds of.tells.heads of.lent of.tells.alike stage.posts heads_are)
              0 (length of.lent.files.items) stage.scripts.items (flat_map script_of dones) is.scripts_are by.of_scripts);
          workers_are = numbered_map worker_end (WorkerEnds its stage.posts is.writers) 0 (flat_map worker_of dones)
              (numbered (IsWorker stage.posts (length of.lent.files.items) is.writers of.bots (ascending of.guilds) of.port of.lent.doors.items of.lent.clocks.items) (DoorPartGives door_tale door_faults clock_tale)
              (λ n d. WorkerEnds its stage.posts is.writers n (worker_end d))
              (one_worker left faults door_tale door_faults clock_tale of.port of.bots of.guilds of.tells.heads of.lent of.tells.alike stage.posts is.writers)
              0 (length of.lent.doors.items) stage.workers.items (flat_map worker_of dones) is.workers_are by.of_workers);
          whole = whole;
          fault_is = first_is;
        }

    pub ends_so : EndsSo s stage.posts started sorted.actors.items sorted.scripts.items sorted.workers.items fault
    ends_so =
        subst (λ (x : Service). EndsSo x stage.posts started sorted.actors.items sorted.scripts.items sorted.workers.items fault) (sym of.tells.is)
        (subst (λ (l : List (ActorDone R)). EndsSo its stage.posts started l sorted.scripts.items sorted.workers.items fault) (sym actors_same)
        (subst (λ (l : List FileEnd). EndsSo its stage.posts started ended_actors l sorted.workers.items fault) (sym scripts_same)
        (subst (λ (l : List WorkerEnd). EndsSo its stage.posts started ended_actors ended_scripts l fault) (sym workers_same) its_ends)))

    pub shows_so : ShowsFault (map faults sorted.returned.sources.items) (map door_faults sorted.returned.doors.items) fault
    shows_so = shows left faults door_tale door_faults clock_tale (IsScript stage.posts (ascending of.guilds) of.lent.files.items)
        (λ n p is e. (head_of left faults door_tale door_faults clock_tale of.port of.bots of.guilds of.tells.heads of.lent of.tells.alike stage.posts heads_are n p is).1.1.failed e)
        (length of.lent.files.items) stage.scripts.items stage.workers.items dones of.stage_is.scripts_are by.of_scripts by.of_workers
        kept.returned.sources.items sorted.returned.sources.items sorts.back.sources_are kept.returned.doors.items sorted.returned.doors.items sorts.back.doors_are
        started ended_actors fault first_is
