-- What the parts of a load have left, kind by kind.
use Rattle.std.proofs.Common.{◌≡◌, ⊎_elim, ℕ, ◌+◌, ◌≤◌, Bool, true, false, List, [], ◌++◌, map, flat_map, length, Some, None, refl, sym, ap, ap₂, ◌∙◌, subst, arith, append-nil}
use Rattle.std.specs.List.{AllZip, range_with_len}
use Rattle.std.proofs.lemmas.List.{length-append, length-map, nil_from_length}
use Rattle.edit_post.specs.declared.send_refused.SendRefused.{SendRefused}
use Rattle.gate_outside.specs.Causes.{Rose}
use Rattle.gate_outside.specs.Clocks.{ClockTale}
use Rattle.thread_outside.specs.DialledDoors.{DialledState}
use Rattle.thread_outside.specs.declared.kept_notes.KeptNotes.{KeptNotes}
use Rattle.worker_core.specs.declared.io.Input.{Input}
use Rattle.gate_parts.specs.Actors.{ActorGives}
use Rattle.gate_parts.specs.Scripts.{ScriptGives}
use Rattle.gate_parts.specs.declared.actor_part.ActorPart.{ActorPart}
use Rattle.gate_parts.specs.declared.actor_part.ActorDone.{ActorDone}
use Rattle.gate_parts.specs.declared.script_part.ScriptPart.{ScriptPart}
use Rattle.gate_parts.specs.declared.worker_part.WorkerPart.{WorkerPart}
use Rattle.load_client.specs.declared.ended_client.EndedClient.{EndedClient}
use Rattle.load_parts.specs.ByKind.{GaveByKind}
use Rattle.load_parts.specs.Clients.{ClientGives}
use Rattle.load_parts.specs.Kinds.{actor_of, script_of, worker_of, client_of}
use Rattle.load_parts.specs.Parts.{LoadGives, DoorWorkerGives}
use Rattle.load_parts.specs.declared.client_part.ClientPart.{ClientPart}
use Rattle.load_parts.specs.declared.load_part.LoadPart.{LoadPart}
use Rattle.load_parts.specs.declared.load_part.LoadPart.TheVariants as part
use Rattle.load_parts.specs.declared.load_part.LoadDone.{LoadDone}
use Rattle.load_stage.specs.Clients.{IsClient}
use Rattle.load_stage.specs.Parts.{IsActor, IsScript, IsWorker}
use Rattle.load_stage.specs.Stages.{IsStage}
use Rattle.load_stage.specs.declared.stage.Stage.{Stage}
use Rattle.gate_ends.specs.Done.{worker_end}
use Rattle.gate_ends.specs.Ends.{ActorEnds}
use Rattle.gate_ends.specs.declared.ending.ScriptEnd.{ScriptEnd}
use Rattle.gate_ends.specs.declared.ending.WorkerEnd.{WorkerEnd}
use Rattle.gate_ends.proofs.Counts.{each_one, goes_back}
use Rattle.gate_ends.proofs.Ranks.{first_is, first_is_none}
use Rattle.gate_ends.proofs.Zips.{zip_on, many_zip}
use Rattle.load_run.specs.declared.fault.LoadFault.{LoadFault}
use Rattle.load_run.specs.declared.sorting.Ends.{Ends}
use Rattle.load_run.specs.Causes.{LoadCause}
use Rattle.load_run.specs.Ends.{clock_of_part, clock_of_done}
use Rattle.load_run.specs.Faults.{fault_of, first_fault, rank, start_fault}
use Rattle.load_run.specs.Joined.{Joined, ClientsJoined, HasJoined, ScriptEnds, WorkerEnds, ClientEnds}
use Rattle.load_parts.specs.ByKind.{parts_of}
use Rattle.load_run.specs.Sorted.{Sorts, IsEmpty, HasRoom, script_end, ended_of}
use Rattle.load_parts.proofs.OneKind.{other}
use Rattle.load_run.proofs.Staged.{one_actor, one_script, one_worker, one_client, zip_map}
use Rattle.load_run.proofs.Played.{AllKnown, all_known, known_front, any_cause, same_clock}
use Rattle.load_run.proofs.Ranks.{all_started, is_start}

module _ {C R : Type 0} (clock_tale : C → ClockTale) (seed : ℕ) (clocks : List C) (stage : Stage C R) (is : IsStage seed clocks stage) (dones : List (LoadDone C R))
    (gave : GaveByKind C R clock_tale stage.actors.items stage.scripts.items stage.workers.items stage.clients.items dones) where
  abbrev ended_actors : List (ActorDone R)
  ended_actors = flat_map actor_of dones

  abbrev ended_scripts : List (ScriptEnd SendRefused)
  ended_scripts = map script_end (flat_map script_of dones)

  abbrev ended_workers : List WorkerEnd
  ended_workers = map worker_end (flat_map worker_of dones)

  senders_joined : Joined seed stage.posts ended_actors ended_scripts ended_workers
  senders_joined = record {
    two = is.two_posts;
    writers = is.writers;
    writers_are = is.new_writers;
    actors_are = zip_on (IsActor stage.posts stage.keeper.flag is.writers) ActorGives (ActorEnds stage.posts is.writers 7) (one_actor stage.posts stage.keeper.flag is.writers)
        (range_with_len 0 2) stage.actors.items ended_actors is.actors_are gave.actors_gave;
    scripts_are = zip_map script_end (ScriptEnds seed stage.posts) (range_with_len 0 4) (flat_map script_of dones)
        (zip_on (IsScript stage.posts stage.keeper.flag seed) ScriptGives (λ n d. ScriptEnds seed stage.posts n (script_end d)) (one_script stage.posts stage.keeper.flag is.writers seed)
        (range_with_len 0 4) stage.scripts.items (flat_map script_of dones) is.scripts_are gave.scripts_gave);
    workers_are = zip_map worker_end (WorkerEnds stage.posts is.writers) (range_with_len 0 3) (flat_map worker_of dones)
        (zip_on (IsWorker stage.posts stage.keeper.flag is.writers is.queues clocks) (DoorWorkerGives clock_tale) (λ n d. WorkerEnds stage.posts is.writers n (worker_end d))
        (one_worker stage.posts stage.keeper.flag is.writers clock_tale is.queues clocks)
        (range_with_len 0 3) stage.workers.items (flat_map worker_of dones) is.workers_are gave.workers_gave);
  }

  clients_joined : ClientsJoined (map ended_of (flat_map client_of dones))
  clients_joined = (
    stage.keeper.flag,
    zip_map ended_of (ClientEnds stage.keeper.flag) (range_with_len 0 12) (flat_map client_of dones)
        (zip_on (IsClient stage.keeper.flag is.queues clocks) (ClientGives clock_tale) (λ n d. ClientEnds stage.keeper.flag n (ended_of d))
        (one_client clock_tale stage.keeper.flag is.queues clocks)
        (range_with_len 0 12) stage.clients.items (flat_map client_of dones) is.clients_are gave.clients_gave),
  )

  -- sorted after the clocks of those that were not started
  pub has_joined : (none back sorted : Ends C R) → IsEmpty none → back ≡ record none { clocks = back.clocks } → Sorts dones back sorted → HasJoined seed stage.posts sorted
  has_joined none back sorted empty same sorts =
      let actors : sorted.actors.items ≡ ended_actors = sorts.actors ∙ ap (λ (l : List (ActorDone R)). l ++ ended_actors) (ap (λ (e : Ends C R). e.actors.items) same ∙ empty.actors) in
      let scripts : sorted.scripts.items ≡ ended_scripts = sorts.scripts ∙ ap (λ (l : List (ScriptEnd SendRefused)). l ++ ended_scripts) (ap (λ (e : Ends C R). e.scripts.items) same ∙ empty.scripts) in
      let workers : sorted.workers.items ≡ ended_workers = sorts.workers ∙ ap (λ (l : List WorkerEnd). l ++ ended_workers) (ap (λ (e : Ends C R). e.workers.items) same ∙ empty.workers) in
      let clients : sorted.clients.items ≡ map ended_of (flat_map client_of dones) = sorts.clients ∙ ap (λ (l : List EndedClient). l ++ map ended_of (flat_map client_of dones)) (ap (λ (e : Ends C R). e.clients.items) same ∙ empty.clients) in (
        subst (λ (l : List (ActorDone R)). Joined seed stage.posts l sorted.scripts.items sorted.workers.items) (sym actors)
            (subst (λ (l : List (ScriptEnd SendRefused)). Joined seed stage.posts ended_actors l sorted.workers.items) (sym scripts)
            (subst (λ (l : List WorkerEnd). Joined seed stage.posts ended_actors ended_scripts l) (sym workers) senders_joined)),
        subst ClientsJoined (sym clients) clients_joined,
      )

-- ---- clocks

module _ {C R : Type 0} where
  clocks_of_all : (az : List (ActorPart R)) (ss : List (ScriptPart R)) (ws : List (WorkerPart DialledState C (KeptNotes Input) R)) (cs : List (ClientPart C R)) → length (flat_map clock_of_part (parts_of az ss ws cs)) ≡ length ws + length cs
  clocks_of_all az ss ws cs =
      let clients : List (LoadPart C R) = map part.Client cs in
      let rest : List (LoadPart C R) = map part.Worker ws ++ clients in
      let actors = ap length (other part.Actor clock_of_part (λ e. refl) az (map part.Script ss ++ rest)) in
      let scripts = ap length (other part.Script clock_of_part (λ e. refl) ss rest) in
      let workers = each_one part.Worker clock_of_part (λ e. refl) ws clients in
      let own : length (flat_map clock_of_part (clients ++ [])) ≡ length cs + 0 = each_one part.Client clock_of_part (λ e. refl) cs [] in
      let behind = ap (λ l. length (flat_map clock_of_part l)) (append-nil clients) in
      omega (arith, actors, scripts, workers, own, behind)

  -- the clocks of those that were started and of the others
  pub clocks_back : (clock_tale : C → ClockTale) (front back : List (LoadPart C R)) (dones : List (LoadDone C R)) (none kept sorted : Ends C R) → AllZip (LoadGives clock_tale) front dones → IsEmpty none
      → length kept.clocks.items ≡ length none.clocks.items + length (flat_map clock_of_part back) → Sorts dones kept sorted → length sorted.clocks.items ≡ length (flat_map clock_of_part (front ++ back))
  clocks_back clock_tale front back dones none kept sorted gave empty added sorts =
      goes_back (LoadGives clock_tale) clock_of_part clock_of_done (same_clock clock_tale) front back dones none.clocks.items kept.clocks.items sorted.clocks.items gave empty.clocks added sorts.clocks

-- ---- faults

module _ {C R : Type 0} (clock_tale : C → ClockTale) (seed : ℕ) (clocks : List C) (stage : Stage C R) (is : IsStage seed clocks stage) where
  -- the cause of the fault that is answered: a part did not start, or one that was started has ended by it
  pub fault_cause : (front back : List (LoadPart C R)) (dones : List (LoadDone C R)) (started : Bool) (f : LoadFault) (team0 team1 sink : ℕ)
      → parts_of stage.actors.items stage.scripts.items stage.workers.items stage.clients.items ≡ front ++ back → AllZip (LoadGives clock_tale) front dones
      → first_fault started dones ≡ Some f → (started ≡ false → Rose team0 team1) → LoadCause seed team0 team1 sink sink f
  fault_cause front back dones started f team0 team1 sink parts gave first rose =
      ⊎_elim
      (λ s. let b = is_start started f s in subst (LoadCause seed team0 team1 sink sink) (sym b.1) (rose b.0))
      (λ any. any_cause C R clock_tale seed stage.posts stage.keeper.flag is.writers is.queues clocks team0 team1 sink sink front dones f
      (known_front C R clock_tale seed stage.posts stage.keeper.flag is.writers is.queues clocks front back
      (subst (AllKnown C R clock_tale seed stage.posts stage.keeper.flag is.writers is.queues clocks) parts
      (all_known C R clock_tale seed stage.posts stage.keeper.flag is.writers is.queues clocks stage.actors.items stage.scripts.items stage.workers.items stage.clients.items
      is.scripts_are is.workers_are is.clients_are))) gave any)
      (first_is rank (start_fault started) (map fault_of dones) f first)

-- ---- counts

module _ {C R : Type 0} where
  pub many_parts : (az : List (ActorPart R)) (ss : List (ScriptPart R)) (ws : List (WorkerPart DialledState C (KeptNotes Input) R)) (cs : List (ClientPart C R)) → length (parts_of az ss ws cs) ≡ length az + (length ss + (length ws + length cs))
  many_parts az ss ws cs =
      let workers : List (LoadPart C R) = map part.Worker ws in
      let clients : List (LoadPart C R) = map part.Client cs in
      let scripts : List (LoadPart C R) = map part.Script ss in
      let actors : List (LoadPart C R) = map part.Actor az in
      length-append actors (scripts ++ (workers ++ clients)) ∙ ap₂ (λ (a b : ℕ). a + b) (length-map az part.Actor)
      (length-append scripts (workers ++ clients) ∙ ap₂ (λ (a b : ℕ). a + b) (length-map ss part.Script)
      (length-append workers clients ∙ ap₂ (λ (a b : ℕ). a + b) (length-map ws part.Worker) (length-map cs part.Client)))

  -- the parts of a stage
  pub record Counts (clocks : List C) (stage : Stage C R) : Type 0 where
    pub actors : length stage.actors.items ≡ 2
    pub scripts : length stage.scripts.items ≡ 4
    pub workers : length stage.workers.items ≡ 3
    pub clients : length stage.clients.items ≡ 12
    pub parts : length (parts_of stage.actors.items stage.scripts.items stage.workers.items stage.clients.items) ≡ 21
    pub clock : length (flat_map clock_of_part (parts_of stage.actors.items stage.scripts.items stage.workers.items stage.clients.items)) ≡ 15

  pub counts : (seed : ℕ) (clocks : List C) (stage : Stage C R) → IsStage seed clocks stage → Counts clocks stage
  counts seed clocks stage is =
      let actors = many_zip (IsActor stage.posts stage.keeper.flag is.writers) (range_with_len 0 2) stage.actors.items is.actors_are in
      let scripts = many_zip (IsScript stage.posts stage.keeper.flag seed) (range_with_len 0 4) stage.scripts.items is.scripts_are in
      let workers = many_zip (IsWorker stage.posts stage.keeper.flag is.writers is.queues clocks) (range_with_len 0 3) stage.workers.items is.workers_are in
      let clients = many_zip (IsClient stage.keeper.flag is.queues clocks) (range_with_len 0 12) stage.clients.items is.clients_are in
      record {
        actors = actors;
        scripts = scripts;
        workers = workers;
        clients = clients;
        parts = many_parts stage.actors.items stage.scripts.items stage.workers.items stage.clients.items ∙ ap₂ (λ (a b : ℕ). a + b) actors (ap₂ (λ (a b : ℕ). a + b) scripts (ap₂ (λ (a b : ℕ). a + b) workers clients));
        clock = clocks_of_all stage.actors.items stage.scripts.items stage.workers.items stage.clients.items ∙ ap₂ (λ (a b : ℕ). a + b) workers clients;
      }

  -- room for fewer
  pub less_room : (more most : ℕ) (e : Ends C R) → more ≤ most → HasRoom most e → HasRoom more e
  less_room more most e le room = record {
    actors = omega (arith, le, room.actors);
    scripts = omega (arith, le, room.scripts);
    workers = omega (arith, le, room.workers);
    clients = omega (arith, le, room.clients);
    clocks = omega (arith, le, room.clocks);
  }

  -- all were started where there is no fault
  pub none_back : (back : List (LoadPart C R)) (dones : List (LoadDone C R)) (started : Bool) → first_fault started dones ≡ None → (started ≡ true → length back ≡ 0) → back ≡ []
  none_back back dones started none all = nil_from_length back (all (all_started started (first_is_none rank (start_fault started) (map fault_of dones) none)))
