-- What the first parts of a run gave.
use Rattle.std.proofs.Common.{◌≡◌, ℕ, zero, suc, ◌+◌, List, [], ◌∷◌, ◌++◌, map, flat_map, length, arith}
use Rattle.std.specs.List.{AllZip}
use Rattle.std.specs.declared.option.Option.{Option}
use Rattle.gate_outside.specs.Clocks.{ClockTale}
use Rattle.gate_outside.specs.Doors.{DoorTale}
use Rattle.thread_outside.specs.declared.quiet_notes.QuietNotes.{QuietNotes}
use Rattle.gate_parts.specs.Actors.{ActorGives}
use Rattle.gate_parts.specs.declared.actor_part.ActorPart.{ActorPart}
use Rattle.gate_parts.specs.declared.worker_part.WorkerPart.{WorkerPart}
use Rattle.run_stage.specs.Dealing.{AreFrom}
use Rattle.serve_parts.specs.ByKind.{parts_of}
use Rattle.serve_parts.specs.Files.{FileGives}
use Rattle.serve_parts.specs.Kinds.{actor_of, script_of, worker_of}
use Rattle.serve_parts.specs.Parts.{ServeGives, DoorPartGives}
use Rattle.serve_parts.specs.declared.file_part.FilePart.{FilePart}
use Rattle.serve_parts.specs.declared.serve_part.ServeDone.{ServeDone}
use Rattle.serve_parts.specs.declared.serve_part.ServeDone.TheVariants as done
use Rattle.serve_run.specs.Ended.{AreNumbered}

-- these were given by the first of those
abbrev pub ZipFront : {A B : Type 0} → (A → B → Type 0) → List A → List B → Type 0
ZipFront R xs [] = Unit {0}
ZipFront R [] (y ∷ ys) = ⊥
ZipFront R (x ∷ xs) (y ∷ ys) = R x y × ZipFront R xs ys

pub front_zip : {A B : Type 0} (R : A → B → Type 0) (front back : List A) (ys : List B) → AllZip R front ys → ZipFront R (front ++ back) ys
front_zip R [] back [] h = tt
front_zip R [] back (y ∷ ys) h = elim h [ ]
front_zip R (x ∷ front) back [] h = tt
front_zip R (x ∷ front) back (y ∷ ys) h = (h.0, front_zip R front back ys h.1)

-- ---- by their numbers

pub numbered : {A B : Type 0} (Is : ℕ → A → Type 0) (G : A → B → Type 0) (P : ℕ → B → Type 0) → ((n : ℕ) (a : A) (b : B) → Is n a → G a b → P n b)
    → (k n : ℕ) (xs : List A) (ys : List B) → AreFrom Is k n xs → ZipFront G xs ys → AreNumbered P k ys
numbered Is G P both k n xs [] z h = tt
numbered Is G P both k n [] (y ∷ ys) z h = elim h [ ]
numbered Is G P both k zero (x ∷ xs) (y ∷ ys) z h = elim z [ ]
numbered Is G P both k (suc n) (x ∷ xs) (y ∷ ys) z h = (both k x y z.0 h.0, numbered Is G P both (k + 1) n xs ys z.1 h.1)

pub numbered_map : {B X : Type 0} (f : B → X) (P : ℕ → X → Type 0) (k : ℕ) (ys : List B) → AreNumbered (λ n y. P n (f y)) k ys → AreNumbered P k (map f ys)
numbered_map f P k [] h = tt
numbered_map f P k (y ∷ ys) h = (h.0, numbered_map f P (k + 1) ys h.1)

-- as many as there have to be
pub all_numbered : {X : Type 0} (Is : ℕ → X → Type 0) (k n : ℕ) (xs : List X) → AreNumbered Is k xs → length xs ≡ n → AreFrom Is k n xs
all_numbered Is k zero [] h e = tt
all_numbered Is k zero (x ∷ xs) h e = absurd (omega (arith, e))
all_numbered Is k (suc n) [] h e = absurd (omega (arith, e))
all_numbered Is k (suc n) (x ∷ xs) h e = (h.0, all_numbered Is (k + 1) n xs h.1 (omega (arith, e)))

-- ---- by their kinds

module _ {S D C R : Type 0} (left : S → Option (List ℕ)) (faults : S → ℕ) (door_tale : D → DoorTale) (door_faults : D → ℕ) (clock_tale : C → ClockTale) where
  -- each kind of what was given was given by the first parts of that kind
  pub record ByKind (actors : List (ActorPart R)) (scripts : List (FilePart S R)) (workers : List (WorkerPart D C QuietNotes R)) (dones : List (ServeDone S D C R)) : Type 0 where
    pub of_actors : ZipFront ActorGives actors (flat_map actor_of dones)
    pub of_scripts : ZipFront (FileGives left faults) scripts (flat_map script_of dones)
    pub of_workers : ZipFront (DoorPartGives door_tale door_faults clock_tale) workers (flat_map worker_of dones)

  none_given : (az : List (ActorPart R)) (ss : List (FilePart S R)) (ws : List (WorkerPart D C QuietNotes R)) → ByKind az ss ws []
  none_given az ss ws = record { of_actors = tt; of_scripts = tt; of_workers = tt }

  pub kinds : (az : List (ActorPart R)) (ss : List (FilePart S R)) (ws : List (WorkerPart D C QuietNotes R)) (ds : List (ServeDone S D C R))
      → ZipFront (ServeGives left faults door_tale door_faults clock_tale) (parts_of az ss ws) ds → ByKind az ss ws ds
  kinds az ss ws [] h = none_given az ss ws
  kinds [] [] [] (d ∷ ds) h = absurd h
  kinds [] [] (w ∷ ws) (done.Actor e ∷ ds) h = absurd h.0
  kinds [] [] (w ∷ ws) (done.Script e ∷ ds) h = absurd h.0
  kinds [] [] (w ∷ ws) (done.Worker e ∷ ds) h =
      let more = kinds [] [] ws ds h.1 in
      record { of_actors = more.of_actors; of_scripts = more.of_scripts; of_workers = (h.0, more.of_workers) }
  kinds [] (s ∷ ss) ws (done.Actor e ∷ ds) h = absurd h.0
  kinds [] (s ∷ ss) ws (done.Script e ∷ ds) h =
      let more = kinds [] ss ws ds h.1 in
      record { of_actors = more.of_actors; of_scripts = (h.0, more.of_scripts); of_workers = more.of_workers }
  kinds [] (s ∷ ss) ws (done.Worker e ∷ ds) h = absurd h.0
  kinds (a ∷ az) ss ws (done.Actor e ∷ ds) h =
      let more = kinds az ss ws ds h.1 in
      record { of_actors = (h.0, more.of_actors); of_scripts = more.of_scripts; of_workers = more.of_workers }
  kinds (a ∷ az) ss ws (done.Script e ∷ ds) h = absurd h.0
  kinds (a ∷ az) ss ws (done.Worker e ∷ ds) h = absurd h.0
