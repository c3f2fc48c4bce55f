-- How many parts a run has, and what goes back of them.
use Rattle.std.proofs.Common.{◌≡◌, ℕ, ◌+◌, ◌≤◌, List, [], ◌∷◌, ◌++◌, map, flat_map, length, refl, sym, ap, ap₂, ◌∙◌, arith, append-nil}
use Rattle.std.specs.List.{AllZip}
use Rattle.std.specs.declared.option.Option.{Option}
use Rattle.std.proofs.lemmas.List.{length-append, length-map}
use Rattle.gate_outside.specs.Clocks.{ClockTale}
use Rattle.gate_outside.specs.Doors.{DoorTale}
use Rattle.thread_outside.specs.declared.quiet_notes.QuietNotes.{QuietNotes}
use Rattle.session_core.specs.declared.bot.Bot.{Bot}
use Rattle.gate_parts.specs.declared.actor_part.ActorPart.{ActorPart}
use Rattle.gate_parts.specs.declared.worker_part.WorkerPart.{WorkerPart}
use Rattle.run_stage.proofs.Numbered.{as_many}
use Rattle.serve_parts.specs.ByKind.{parts_of}
use Rattle.serve_parts.specs.Kinds.{script_of}
use Rattle.serve_parts.specs.Parts.{ServeGives}
use Rattle.serve_parts.specs.declared.file_part.FilePart.{FilePart}
use Rattle.serve_parts.specs.declared.serve_part.ServePart.{ServePart}
use Rattle.serve_parts.specs.declared.serve_part.ServePart.TheVariants as part
use Rattle.serve_parts.specs.declared.serve_part.ServeDone.{ServeDone}
use Rattle.serve_parts.specs.declared.serve_part.ServeDone.TheVariants as done
use Rattle.serve_parts.proofs.ByKind.{other}
use Rattle.serve_stage.specs.Parts.{IsActor, IsScript, IsWorker}
use Rattle.serve_stage.specs.Stages.{AreLent, IsStage, senders_of}
use Rattle.serve_stage.specs.declared.lent.Lent.{Lent}
use Rattle.serve_stage.specs.declared.stage.Stage.{Stage}
use Rattle.serve_run.specs.Sorted.{HasRoom, IsEmpty, Sorts, source_of, door_of, clock_of, source_of_part, door_of_part, clock_of_part}
use Rattle.serve_run.specs.declared.ends.Ends.{Ends}
use Rattle.gate_ends.proofs.Counts.{each_one, goes_back}
use Rattle.gate_ends.proofs.Zips.{many_zip}
use Rattle.serve_run.specs.Lent.{ReturnsAll}

module _ {S D C R : Type 0} (left : S → Option (List ℕ)) (faults : S → ℕ) (door_tale : D → DoorTale) (door_faults : D → ℕ) (clock_tale : C → ClockTale) where
  abbrev Gives : ServePart S D C R → ServeDone S D C R → Type 0
  Gives = ServeGives left faults door_tale door_faults clock_tale

  same_source : (p : ServePart S D C R) (d : ServeDone S D C R) → Gives p d → length (source_of d) ≡ length (source_of_part p)
  same_source (part.Actor p) (done.Actor d) g = refl
  same_source (part.Script p) (done.Script d) g = refl
  same_source (part.Worker p) (done.Worker d) g = refl
  same_source (part.Actor p) (done.Script d) g = elim g [ ]
  same_source (part.Actor p) (done.Worker d) g = elim g [ ]
  same_source (part.Script p) (done.Actor d) g = elim g [ ]
  same_source (part.Script p) (done.Worker d) g = elim g [ ]
  same_source (part.Worker p) (done.Actor d) g = elim g [ ]
  same_source (part.Worker p) (done.Script d) g = elim g [ ]

  same_door : (p : ServePart S D C R) (d : ServeDone S D C R) → Gives p d → length (door_of d) ≡ length (door_of_part p)
  same_door (part.Actor p) (done.Actor d) g = refl
  same_door (part.Script p) (done.Script d) g = refl
  same_door (part.Worker p) (done.Worker d) g = refl
  same_door (part.Actor p) (done.Script d) g = elim g [ ]
  same_door (part.Actor p) (done.Worker d) g = elim g [ ]
  same_door (part.Script p) (done.Actor d) g = elim g [ ]
  same_door (part.Script p) (done.Worker d) g = elim g [ ]
  same_door (part.Worker p) (done.Actor d) g = elim g [ ]
  same_door (part.Worker p) (done.Script d) g = elim g [ ]

  same_clock : (p : ServePart S D C R) (d : ServeDone S D C R) → Gives p d → length (clock_of d) ≡ length (clock_of_part p)
  same_clock (part.Actor p) (done.Actor d) g = refl
  same_clock (part.Script p) (done.Script d) g = refl
  same_clock (part.Worker p) (done.Worker d) g = refl
  same_clock (part.Actor p) (done.Script d) g = elim g [ ]
  same_clock (part.Actor p) (done.Worker d) g = elim g [ ]
  same_clock (part.Script p) (done.Actor d) g = elim g [ ]
  same_clock (part.Script p) (done.Worker d) g = elim g [ ]
  same_clock (part.Worker p) (done.Actor d) g = elim g [ ]
  same_clock (part.Worker p) (done.Script d) g = elim g [ ]

module _ {S D C R : Type 0} (az : List (ActorPart R)) (ss : List (FilePart S R)) (ws : List (WorkerPart D C QuietNotes R)) where
  abbrev workers : List (ServePart S D C R)
  workers = map part.Worker ws

  abbrev after_actors : List (ServePart S D C R)
  after_actors = map part.Script ss ++ workers

  pub many_parts : length (parts_of az ss ws) ≡ length az + (length ss + length ws)
  many_parts =
      length-append (map part.Actor az) after_actors ∙ ap₂ (λ (a b : ℕ). a + b) (length-map az part.Actor)
      (length-append (map part.Script ss) workers ∙ ap₂ (λ (a b : ℕ). a + b) (length-map ss part.Script) (length-map ws part.Worker))

  -- the last kind alone
  last : {X : Type 0} (of : ServePart S D C R → List X) → flat_map of (workers ++ []) ≡ flat_map of workers
  last of = ap (λ l. flat_map of l) (append-nil workers)

  pub many_sources : length (flat_map source_of_part (parts_of az ss ws)) ≡ length ss
  many_sources =
      let actors = ap length (other part.Actor source_of_part (λ e. refl) az after_actors) in
      let scripts = each_one part.Script source_of_part (λ e. refl) ss workers in
      let others : length (flat_map source_of_part (workers ++ [])) ≡ 0 = ap length (other part.Worker source_of_part (λ e. refl) ws []) in
      let behind = ap length (last source_of_part) in
      omega (arith, actors, scripts, others, behind)

  pub many_doors : length (flat_map door_of_part (parts_of az ss ws)) ≡ length ws
  many_doors =
      let actors = ap length (other part.Actor door_of_part (λ e. refl) az after_actors) in
      let scripts = ap length (other part.Script door_of_part (λ e. refl) ss workers) in
      let own : length (flat_map door_of_part (workers ++ [])) ≡ length ws + 0 = each_one part.Worker door_of_part (λ e. refl) ws [] in
      let behind = ap length (last door_of_part) in
      omega (arith, actors, scripts, own, behind)

  pub many_clocks : length (flat_map clock_of_part (parts_of az ss ws)) ≡ length ws
  many_clocks =
      let actors = ap length (other part.Actor clock_of_part (λ e. refl) az after_actors) in
      let scripts = ap length (other part.Script clock_of_part (λ e. refl) ss workers) in
      let own : length (flat_map clock_of_part (workers ++ [])) ≡ length ws + 0 = each_one part.Worker clock_of_part (λ e. refl) ws [] in
      let behind = ap length (last clock_of_part) in
      omega (arith, actors, scripts, own, behind)

-- the parts of a stage
module _ {S D C R : Type 0} (port : ℕ) (bots : List Bot) (guilds : List ℕ) (lent : Lent S D C) (stage : Stage S D C R) (is : IsStage port bots guilds lent stage) where
  pub two_actors : length stage.actors.items ≡ 2
  two_actors = as_many (IsActor stage.posts (senders_of lent) is.writers) 0 2 stage.actors.items is.actors_are

  pub all_scripts : length stage.scripts.items ≡ length lent.files.items
  all_scripts = as_many (IsScript stage.posts guilds lent.files.items) 0 (length lent.files.items) stage.scripts.items is.scripts_are

  pub all_workers : length stage.workers.items ≡ length lent.doors.items
  all_workers = as_many (IsWorker stage.posts (length lent.files.items) is.writers bots guilds port lent.doors.items lent.clocks.items) 0 (length lent.doors.items) stage.workers.items is.workers_are

  -- no more of them than there is room for
  pub most_parts : AreLent lent → (none all : List (ServePart S D C R)) → all ≡ none ++ parts_of stage.actors.items stage.scripts.items stage.workers.items → none ≡ [] → length all ≤ 18
  most_parts are none all is empty =
      let number = ap length (is ∙ ap (λ l. l ++ parts_of stage.actors.items stage.scripts.items stage.workers.items) empty) ∙ many_parts stage.actors.items stage.scripts.items stage.workers.items in
      let actors = two_actors in
      let scripts = all_scripts in
      let workers = all_workers in
      omega (arith, number, actors, scripts, workers, are.files.1, are.doors.1)

  -- what goes back of them
  pub returns_all : (left : S → Option (List ℕ)) (faults : S → ℕ) (door_tale : D → DoorTale) (door_faults : D → ℕ) (clock_tale : C → ClockTale)
      → (front back : List (ServePart S D C R)) (dones : List (ServeDone S D C R)) (none kept sorted : Ends S D C R)
      → length lent.clocks.items ≡ length lent.doors.items → parts_of stage.actors.items stage.scripts.items stage.workers.items ≡ front ++ back
      → AllZip (ServeGives left faults door_tale door_faults clock_tale) front dones → IsEmpty none
      → length kept.returned.sources.items ≡ length none.returned.sources.items + length (flat_map source_of_part back)
      → length kept.returned.doors.items ≡ length none.returned.doors.items + length (flat_map door_of_part back)
      → length kept.returned.clocks.items ≡ length none.returned.clocks.items + length (flat_map clock_of_part back)
      → Sorts dones kept sorted → ReturnsAll lent sorted.returned
  returns_all left faults door_tale door_faults clock_tale front back dones none kept sorted alike parts gave empty sources doors clocks sorts =
      let az = stage.actors.items in
      let ss = stage.scripts.items in
      let ws = stage.workers.items in
      let of_sources = goes_back (ServeGives left faults door_tale door_faults clock_tale) source_of_part source_of (same_source left faults door_tale door_faults clock_tale)
      front back dones none.returned.sources.items kept.returned.sources.items sorted.returned.sources.items gave empty.bare.sources sources sorts.back.sources_are in
      let of_doors = goes_back (ServeGives left faults door_tale door_faults clock_tale) door_of_part door_of (same_door left faults door_tale door_faults clock_tale)
      front back dones none.returned.doors.items kept.returned.doors.items sorted.returned.doors.items gave empty.bare.doors doors sorts.back.doors_are in
      let of_clocks = goes_back (ServeGives left faults door_tale door_faults clock_tale) clock_of_part clock_of (same_clock left faults door_tale door_faults clock_tale)
      front back dones none.returned.clocks.items kept.returned.clocks.items sorted.returned.clocks.items gave empty.bare.clocks clocks sorts.back.clocks_are in
      record {
        sources = of_sources ∙ ap (λ l. length (flat_map source_of_part l)) (sym parts) ∙ many_sources az ss ws ∙ all_scripts;
        doors = of_doors ∙ ap (λ l. length (flat_map door_of_part l)) (sym parts) ∙ many_doors az ss ws ∙ all_workers;
        clocks = of_clocks ∙ ap (λ l. length (flat_map clock_of_part l)) (sym parts) ∙ many_clocks az ss ws ∙ all_workers ∙ sym alike;
      }

-- ---- room

module _ {S D C R : Type 0} where
  -- room for fewer
  pub less_room : (more most : ℕ) (e : Ends S D C R) → more ≤ most → HasRoom most e → HasRoom more e
  less_room more most e le room = record {
    actors = omega (arith, le, room.actors);
    scripts = omega (arith, le, room.scripts);
    workers = omega (arith, le, room.workers);
    space = record {
      sources = omega (arith, le, room.space.sources);
      doors = omega (arith, le, room.space.doors);
      clocks = omega (arith, le, room.space.clocks);
    };
  }

  -- no more scripts than parts have ended
  pub most_scripts : (ds : List (ServeDone S D C R)) → length (flat_map script_of ds) ≤ length ds
  most_scripts [] = omega (arith)
  most_scripts (done.Actor d ∷ ds) = let more = most_scripts ds in omega (arith, more)
  most_scripts (done.Script d ∷ ds) = let more = most_scripts ds in omega (arith, more)
  most_scripts (done.Worker d ∷ ds) = let more = most_scripts ds in omega (arith, more)

-- as many as there were tasks have ended or come back
pub all_ended : {T H D : Type 0} (task_of : H → T) (G : T → D → Type 0) (tasks : List T) (started : List H) (back : List T) (dones : List D) → tasks ≡ map task_of started ++ back → AllZip G (map task_of started) dones
    → length dones + length back ≡ length tasks
all_ended task_of G tasks started back dones parts gave =
    let all = ap length parts ∙ length-append (map task_of started) back in
    let same = many_zip G (map task_of started) dones gave in
    omega (arith, all, same)

-- and no more than these were started
pub fewer_started : {T H : Type 0} (task_of : H → T) (tasks : List T) (started : List H) (back : List T) → tasks ≡ map task_of started ++ back → length started ≤ length tasks
fewer_started task_of tasks started back parts =
    let all = ap length parts ∙ length-append (map task_of started) back in
    let same = length-map started task_of in
    omega (arith, all, same)
