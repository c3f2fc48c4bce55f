-- The ended parts of a run of `serve`, by their kinds.
use Rattle.std.specs.Prelude.{◌≡◌, ℕ, ◌+◌, ◌≤◌, List, [], ◌∷◌, ◌++◌, map, flat_map}
use Rattle.std.specs.Vec.{vec_len, vec_capacity}
use Rattle.serve_parts.specs.declared.file_part.FileDone.{FileDone}
use Rattle.serve_parts.specs.declared.serve_part.ServePart.{ServePart}
use Rattle.serve_parts.specs.declared.serve_part.ServePart.TheVariants as part
use Rattle.serve_parts.specs.declared.serve_part.ServeDone.{ServeDone}
use Rattle.serve_parts.specs.declared.serve_part.ServeDone.TheVariants as done
use Rattle.serve_parts.specs.Kinds.{actor_of, script_of, worker_of}
use Rattle.gate_ends.specs.Done.{worker_end}
use Rattle.serve_run.specs.Files.{FileEnd}
use Rattle.serve_run.specs.declared.ends.Returned.{Returned}
use Rattle.serve_run.specs.declared.ends.Ends.{Ends}

module _ {S : Type 0} where
  -- a script without its source
  abbrev pub file_end : FileDone S → FileEnd
  file_end d = record { ending = d.ending; passes = d.passes }

module _ {S D C R : Type 0} where
  -- what goes back of a part that has ended
  abbrev pub source_of : ServeDone S D C R → List S
  source_of (done.Actor d) = []
  source_of (done.Script d) = d.source ∷ []
  source_of (done.Worker d) = []

  abbrev pub door_of : ServeDone S D C R → List D
  door_of (done.Actor d) = []
  door_of (done.Script d) = []
  door_of (done.Worker d) = d.door ∷ []

  abbrev pub clock_of : ServeDone S D C R → List C
  clock_of (done.Actor d) = []
  clock_of (done.Script d) = []
  clock_of (done.Worker d) = d.clock ∷ []

  -- what goes back of a part that was not started
  abbrev pub source_of_part : ServePart S D C R → List S
  source_of_part (part.Actor p) = []
  source_of_part (part.Script p) = p.source ∷ []
  source_of_part (part.Worker p) = []

  abbrev pub door_of_part : ServePart S D C R → List D
  door_of_part (part.Actor p) = []
  door_of_part (part.Script p) = []
  door_of_part (part.Worker p) = p.door ∷ []

  abbrev pub clock_of_part : ServePart S D C R → List C
  clock_of_part (part.Actor p) = []
  clock_of_part (part.Script p) = []
  clock_of_part (part.Worker p) = p.clock ∷ []

module _ {S D C : Type 0} where
  -- so many items more find space in each of the lists
  pub record HasSpace (more : ℕ) (r : Returned S D C) : Type 0 where
    pub sources : vec_len r.sources + more ≤ vec_capacity r.sources
    pub doors : vec_len r.doors + more ≤ vec_capacity r.doors
    pub clocks : vec_len r.clocks + more ≤ vec_capacity r.clocks

  pub record IsBare (r : Returned S D C) : Type 0 where
    pub sources : r.sources.items ≡ []
    pub doors : r.doors.items ≡ []
    pub clocks : r.clocks.items ≡ []

  -- these were added
  pub record GivesBack (sources : List S) (doors : List D) (clocks : List C) (old new : Returned S D C) : Type 0 where
    pub sources_are : new.sources.items ≡ old.sources.items ++ sources
    pub doors_are : new.doors.items ≡ old.doors.items ++ doors
    pub clocks_are : new.clocks.items ≡ old.clocks.items ++ clocks

module _ {S D C R : Type 0} where
  -- so many items more find room in each of the lists
  pub record HasRoom (more : ℕ) (e : Ends S D C R) : Type 0 where
    pub actors : vec_len e.actors + more ≤ vec_capacity e.actors
    pub scripts : vec_len e.scripts + more ≤ vec_capacity e.scripts
    pub workers : vec_len e.workers + more ≤ vec_capacity e.workers
    pub space : HasSpace more e.returned

  pub record IsEmpty (e : Ends S D C R) : Type 0 where
    pub actors : e.actors.items ≡ []
    pub scripts : e.scripts.items ≡ []
    pub workers : e.workers.items ≡ []
    pub bare : IsBare e.returned

  -- what these parts have left was added, kind by kind
  pub record Sorts (dones : List (ServeDone S D C R)) (old new : Ends S D C R) : Type 0 where
    pub actors : new.actors.items ≡ old.actors.items ++ flat_map actor_of dones
    pub scripts : new.scripts.items ≡ old.scripts.items ++ map file_end (flat_map script_of dones)
    pub workers : new.workers.items ≡ old.workers.items ++ map worker_end (flat_map worker_of dones)
    pub back : GivesBack (flat_map source_of dones) (flat_map door_of dones) (flat_map clock_of dones) old.returned new.returned
