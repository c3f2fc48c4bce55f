-- What follows of the parts of a load.
use Rattle.std.proofs.Common.{◌≡◌, ℕ, ◌+◌, List, [], ◌∷◌, ◌++◌, map, drop, length, sym, ap, ap₂, subst, ◌∙◌}
use Rattle.std.specs.Prelude.{All}
use Rattle.std.specs.List.{range_with_len, AllZip}
use Rattle.std.specs.Global.{Global, Vec}
use Rattle.std.proofs.lemmas.List.Elements.{All-append, All-map}
use Rattle.atomic_table.specs.Seated.{TableId}
use Rattle.crossbeam_queue.specs.SegTies.{SegId}
use Rattle.edit_post.specs.Post.{PostId}
use Rattle.guild_hub.specs.Writes.{Publishing}
use Rattle.guild_posts.specs.Posts.{ArePasses}
use Rattle.stop_flag.specs.Flags.{SeatState, KeeperState, new_seat}
use Rattle.thread_outside.specs.DialledDoors.{DialledState}
use Rattle.thread_outside.specs.declared.kept_notes.KeptNotes.{KeptNotes}
use Rattle.world_law.specs.Model.{first_worker}
use Rattle.worker_core.specs.Represents.{Represents}
use Rattle.worker_core.specs.declared.io.Input.{Input}
use Rattle.gate_parts.specs.declared.actor_part.ActorPart.{ActorPart}
use Rattle.gate_parts.specs.declared.script_part.ScriptPart.{ScriptPart}
use Rattle.gate_parts.specs.declared.worker_part.WorkerPart.{WorkerPart}
use Rattle.load_parts.specs.declared.client_part.ClientPart.{ClientPart}
use Rattle.run_stage.specs.Dealing.{AreFrom}
use Rattle.run_stage.specs.Hubs.{IsReaderOf}
use Rattle.run_stage.proofs.Dealt.{woven_back}
use Rattle.run_stage.proofs.Numbered.{weaker, to_map, placed, at_dropped, of_each}
use Rattle.run_stage.proofs.Passes.{are_passes}
use Rattle.run_stage.proofs.Posted.{taker_posts}
use Rattle.run_stage.proofs.Written.{guilds_are, readers_of}
use Rattle.load_stage.specs.declared.drafting.Draft.{Draft}
use Rattle.load_stage.specs.declared.drafting.Parts.{Parts}
use Rattle.load_stage.specs.Bots.{load_bots, worker_url}
use Rattle.load_stage.specs.Clients.{IsClient}
use Rattle.load_stage.specs.Doors.{IsDoorOf, IsDialOf}
use Rattle.load_stage.specs.Drafts.{AreParts, IsDraft, IsWorkerDraft, IsClientDraft, IsClockedWorker, IsClockedClient}
use Rattle.load_stage.specs.Guilds.{guild_ids}
use Rattle.load_stage.specs.Parts.{IsActor, IsScript, IsWorker}
use Rattle.load_stage.specs.Stages.{IsStage}
use Rattle.load_stage.proofs.Drafted.{worker_readers}
use Rattle.load_stage.proofs.Ready.{distinct}

abbrev AWorker : Type 0 → Type 0 → Type 0
AWorker C R = WorkerPart DialledState C (KeptNotes Input) R

module _ {R : Type 0} where
  -- the posts of the actors' passes
  pub takers_follow : (flag : TableId) (writers : List (ℕ × Publishing)) (posts : List PostId) (actors : List (ActorPart R)) → length posts ≡ 2
      → AreFrom (IsActor posts flag writers) 0 2 actors → map (λ (part : ActorPart R). part.pass.post) actors ≡ posts
  takers_follow flag writers posts [] two all = absurd all
  takers_follow flag writers posts (a ∷ []) two all = absurd all.1
  takers_follow flag writers posts (a ∷ b ∷ c ∷ cs) two all = absurd all.1.1
  takers_follow flag writers posts (a ∷ b ∷ []) two all = taker_posts 7 posts a.pass b.pass two all.0.pass_is all.1.0.pass_is

  module _ (posts : List PostId) (flag : TableId) where
    script_passes : (seed : ℕ) (scripts : List (ScriptPart R)) → AreFrom (IsScript posts flag seed) 0 4 scripts
        → All (ArePasses posts) (map (λ (part : ScriptPart R). part.passes.items) scripts)
    script_passes seed scripts all =
        All-map (ArePasses posts) (λ (part : ScriptPart R). part.passes.items) scripts
        (of_each (IsScript posts flag seed) (λ (part : ScriptPart R). ArePasses posts part.passes.items) (λ n part is. are_passes posts n part.passes.items is.passes_are) 0 4 scripts all)

    actor_seats : (writers : List (ℕ × Publishing)) (actors : List (ActorPart R)) → AreFrom (IsActor posts flag writers) 0 2 actors
        → map (λ (part : ActorPart R). part.seat) actors ≡ map (new_seat flag) (range_with_len 0 2)
    actor_seats writers actors all =
        to_map (λ (part : ActorPart R). part.seat) (new_seat flag) 0 2 actors
        (weaker (IsActor posts flag writers) (λ n part. part.seat ≡ new_seat flag n) (λ n part is. is.seat_is) 0 2 actors all)

    script_seats : (seed : ℕ) (scripts : List (ScriptPart R)) → AreFrom (IsScript posts flag seed) 0 4 scripts
        → map (λ (part : ScriptPart R). part.seat) scripts ≡ map (λ n. new_seat flag (2 + n)) (range_with_len 0 4)
    script_seats seed scripts all =
        to_map (λ (part : ScriptPart R). part.seat) (λ n. new_seat flag (2 + n)) 0 4 scripts
        (weaker (IsScript posts flag seed) (λ n part. part.seat ≡ new_seat flag (2 + n)) (λ n part is. is.seat_is) 0 4 scripts all)

module _ {C R : Type 0} where
  module _ (posts : List PostId) (flag : TableId) (seed : ℕ) (parts : Parts R) (are : AreParts posts flag seed parts) (clocks : List C) where
    worker_is : (n : ℕ) (part : AWorker C R) → IsClockedWorker parts.workers.items clocks n part → IsWorker posts flag are.writers are.doors_are.queues clocks n part
    worker_is n part is =
        let of = is.is_of in
        let d = placed (IsWorkerDraft posts flag are.doors are.readers) 3 parts.workers.items n is.draft are.workers_are is.is_draft in
        let queues = are.doors_are.queues in
        record {
          posts_are = of.posts_are ∙ d.posts_are;
          passes_are = ap (λ v. v.items) of.passes_are ∙ d.passes_are;
          readers_are = ap (λ v. v.items) of.readers_are ∙ worker_readers posts flag seed parts are n is.draft d;
          worker_is = subst (λ k. Represents k (first_worker load_bots guild_ids n (worker_url n))) (sym of.worker_is) d.worker_is;
          door_is = subst (IsDoorOf queues n) (sym of.door_is) (placed (IsDoorOf queues) 3 are.doors n is.draft.door are.doors_are.doors_are d.door_is);
          clock_is = is.is_clock;
          notes_are = of.notes_are;
          seat_is = of.seat_is ∙ d.seat_is;
        }

    pub workers_follow : (workers : List (AWorker C R)) → AreFrom (IsClockedWorker parts.workers.items clocks) 0 3 workers
        → AreFrom (IsWorker posts flag are.writers are.doors_are.queues clocks) 0 3 workers
    workers_follow workers all = weaker _ _ worker_is 0 3 workers all

    client_is : (n : ℕ) (part : ClientPart C R) → IsClockedClient parts.clients.items (drop 3 clocks) n part → IsClient flag are.doors_are.queues clocks n part
    client_is n part is =
        let of = is.is_of in
        let d = placed (IsClientDraft flag are.dials) 12 parts.clients.items n is.draft are.clients_are is.is_draft in
        let queues = are.doors_are.queues in
        record {
          client_is = of.client_is ∙ d.client_is;
          dial_is = subst (IsDialOf queues n) (sym of.dial_is) (placed (IsDialOf queues) 12 are.dials n is.draft.dial are.doors_are.dials_are d.dial_is);
          clock_is = at_dropped 3 clocks n part.clock is.is_clock;
        }

    pub clients_follow : (clients : List (ClientPart C R)) → AreFrom (IsClockedClient parts.clients.items (drop 3 clocks)) 0 12 clients
        → AreFrom (IsClient flag are.doors_are.queues clocks) 0 12 clients
    clients_follow clients all = weaker _ _ client_is 0 12 clients all

  module _ (posts : List PostId) (flag : TableId) where
    module _ (writers : List (ℕ × Publishing)) (queues : List (SegId Global)) (clocks : List C) where
      worker_passes : (workers : List (AWorker C R)) → AreFrom (IsWorker posts flag writers queues clocks) 0 3 workers
          → All (ArePasses posts) (map (λ (part : AWorker C R). part.passes.items) workers)
      worker_passes workers all =
          All-map (ArePasses posts) (λ (part : AWorker C R). part.passes.items) workers
          (of_each (IsWorker posts flag writers queues clocks) (λ (part : AWorker C R). ArePasses posts part.passes.items) (λ n part is. are_passes posts (4 + n) part.passes.items is.passes_are) 0 3 workers all)

      -- the passes of scripts and workers
      pub senders_follow : (seed : ℕ) (scripts : List (ScriptPart R)) (workers : List (AWorker C R)) → AreFrom (IsScript posts flag seed) 0 4 scripts → AreFrom (IsWorker posts flag writers queues clocks) 0 3 workers
          → All (ArePasses posts) (map (λ (part : ScriptPart R). part.passes.items) scripts ++ map (λ (part : AWorker C R). part.passes.items) workers)
      senders_follow seed scripts workers ss ws =
          All-append (ArePasses posts) (map (λ (part : ScriptPart R). part.passes.items) scripts) (map (λ (part : AWorker C R). part.passes.items) workers)
          (script_passes posts flag seed scripts ss) (worker_passes workers ws)

      -- the readers of each worker
      pub readers_follow : (workers : List (AWorker C R)) → AreFrom (IsWorker posts flag writers queues clocks) 0 3 workers
          → All (λ (part : AWorker C R). AllZip IsReaderOf writers part.readers.items) workers
      readers_follow workers all =
          of_each (IsWorker posts flag writers queues clocks) (λ (part : AWorker C R). AllZip IsReaderOf writers part.readers.items)
          (λ n part is. subst (AllZip IsReaderOf writers) (sym is.readers_are) (readers_of writers)) 0 3 workers all

      worker_seats : (workers : List (AWorker C R)) → AreFrom (IsWorker posts flag writers queues clocks) 0 3 workers
          → map (λ (part : AWorker C R). part.seat) workers ≡ map (λ n. new_seat flag (6 + n)) (range_with_len 0 3)
      worker_seats workers all =
          to_map (λ (part : AWorker C R). part.seat) (λ n. new_seat flag (6 + n)) 0 3 workers
          (weaker (IsWorker posts flag writers queues clocks) (λ n part. part.seat ≡ new_seat flag (6 + n)) (λ n part is. is.seat_is) 0 3 workers all)

      client_seats : (clients : List (ClientPart C R)) → AreFrom (IsClient flag queues clocks) 0 12 clients
          → map (λ (part : ClientPart C R). part.client.seat) clients ≡ map (λ n. new_seat flag (9 + n)) (range_with_len 0 12)
      client_seats clients all =
          to_map (λ (part : ClientPart C R). part.client.seat) (λ n. new_seat flag (9 + n)) 0 12 clients
          (weaker (IsClient flag queues clocks) (λ n part. part.client.seat ≡ new_seat flag (9 + n)) (λ n part is. ap (λ k. k.seat) is.client_is) 0 12 clients all)

      -- all seats, by their numbers
      pub seats_follow : (seed : ℕ) (actors : List (ActorPart R)) (scripts : List (ScriptPart R)) (workers : List (AWorker C R)) (clients : List (ClientPart C R)) (seat : SeatState)
          → AreFrom (IsActor posts flag writers) 0 2 actors → AreFrom (IsScript posts flag seed) 0 4 scripts
          → AreFrom (IsWorker posts flag writers queues clocks) 0 3 workers → AreFrom (IsClient flag queues clocks) 0 12 clients → seat ≡ new_seat flag 21
          → map (λ (part : ActorPart R). part.seat) actors
          ++ (map (λ (part : ScriptPart R). part.seat) scripts
          ++ (map (λ (part : AWorker C R). part.seat) workers
          ++ (map (λ (part : ClientPart C R). part.client.seat) clients ++ seat ∷ []))) ≡ map (new_seat flag) (range_with_len 0 22)
      seats_follow seed actors scripts workers clients seat acts ss ws cs is =
          ap₂ (λ x y. x ++ y) (actor_seats posts flag writers actors acts)
          (ap₂ (λ x y. x ++ y) (script_seats posts flag seed scripts ss)
          (ap₂ (λ x y. x ++ y) (worker_seats workers ws)
          (ap₂ (λ x y. x ++ y) (client_seats clients cs) (ap (λ s. s ∷ []) is))))

  -- a draft whose workers and clients have clocks is all that a load begins with
  pub staged : (seed : ℕ) (clocks : List C) (draft : Draft R) (keeper : KeeperState) (seat : SeatState) (workers : Vec (AWorker C R)) (clients : Vec (ClientPart C R))
      → IsDraft seed draft → keeper ≡ draft.seats.keeper → seat ≡ new_seat draft.seats.keeper.flag 21
      → AreFrom (IsClockedWorker draft.parts.workers.items clocks) 0 3 workers.items → AreFrom (IsClockedClient draft.parts.clients.items (drop 3 clocks)) 0 12 clients.items
      → IsStage seed clocks (record {
        posts = draft.ground.posts;
        word = draft.ground.word;
        keeper = keeper;
        seat = seat;
        actors = draft.parts.actors;
        scripts = draft.parts.scripts;
        workers = workers;
        clients = clients;
      })
  staged seed clocks draft keeper seat workers clients is same seat_is ws cs =
      let posts = draft.ground.posts in
      let flag = draft.seats.keeper.flag in
      let are = is.parts_are in
      let writers = are.writers in
      let queues = are.doors_are.queues in
      let actors = draft.parts.actors.items in
      let scripts = draft.parts.scripts.items in
      let with_clocks = workers_follow posts flag seed draft.parts are clocks workers.items ws in
      let clients_too = clients_follow posts flag seed draft.parts are clocks clients.items cs in
      let Is : KeeperState → Type 0 = λ k. IsStage seed clocks (record {
        posts = draft.ground.posts;
        word = draft.ground.word;
        keeper = k;
        seat = seat;
        actors = draft.parts.actors;
        scripts = draft.parts.scripts;
        workers = workers;
        clients = clients;
      }) in
      subst Is (sym same) (record {
        writers = writers;
        queues = queues;
        two_posts = is.two;
        new_writers = are.hubs_are.writers_are;
        three_doors = are.doors_are.three;
        keeper_is = is.seats_are.keeper_is;
        seat_is = seat_is;
        actors_are = are.actors_are;
        scripts_are = are.scripts_are;
        workers_are = with_clocks;
        clients_are = clients_too;
        takers_are = takers_follow flag writers posts actors is.two are.actors_are;
        senders_are = senders_follow posts flag writers queues clocks seed scripts workers.items are.scripts_are with_clocks;
        readers_are = readers_follow posts flag writers queues clocks workers.items with_clocks;
        woven_are = woven_back writers;
        guilds_are = guilds_are guild_ids writers are.hubs_are.writers_are;
        distinct = distinct writers are.hubs_are.writers_are;
        seats_are = seats_follow posts flag writers queues clocks seed actors scripts workers.items clients.items seat are.actors_are are.scripts_are with_clocks clients_too seat_is;
      })
