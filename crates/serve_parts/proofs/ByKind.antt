-- What the parts of a server gave, kind by kind.
use Rattle.std.proofs.Common.{◌≡◌, ℕ, refl, sym, ap, subst, ◌∙◌, List, [], ◌∷◌, ◌++◌, map, append-nil}
use Rattle.std.specs.Prelude.{flat_map, Option}
use Rattle.std.specs.List.{AllZip}
use Rattle.gate_outside.specs.Clocks.{ClockTale}
use Rattle.gate_outside.specs.Doors.{DoorTale}
use Rattle.thread_outside.specs.declared.quiet_notes.QuietNotes.{QuietNotes}
use Rattle.gate_parts.specs.Actors.{ActorGives}
use Rattle.gate_parts.specs.declared.actor_part.ActorPart.{ActorPart}
use Rattle.gate_parts.specs.declared.actor_part.ActorDone.{ActorDone}
use Rattle.gate_parts.specs.declared.worker_part.WorkerPart.{WorkerPart}
use Rattle.gate_parts.specs.declared.worker_part.WorkerDone.{WorkerDone}
use Rattle.load_parts.proofs.OneKind.{own, in_front}
pub use Rattle.load_parts.proofs.OneKind.{other}
use Rattle.serve_parts.specs.declared.file_part.FilePart.{FilePart}
use Rattle.serve_parts.specs.declared.file_part.FileDone.{FileDone}
use Rattle.serve_parts.specs.declared.serve_part.ServePart.{ServePart}
use Rattle.serve_parts.specs.declared.serve_part.ServePart.TheVariants as part
use Rattle.serve_parts.specs.declared.serve_part.ServeDone.{ServeDone}
use Rattle.serve_parts.specs.declared.serve_part.ServeDone.TheVariants as done
use Rattle.serve_parts.specs.Files.{FileGives}
use Rattle.serve_parts.specs.Parts.{ServeGives, DoorPartGives}
use Rattle.serve_parts.specs.Kinds.{actor_of, script_of, worker_of}
use Rattle.serve_parts.specs.ByKind.{GaveByKind, SplitsByKind}

-- what is found of each kind where the kinds stand one after another
module _ {S D C R : Type 0} (xs : List (ActorDone R)) (ss : List (FileDone S)) (ws : List (WorkerDone D C QuietNotes)) where
  -- the workers, and nothing after them
  abbrev last : List (ServeDone S D C R)
  last = map done.Worker ws ++ []

  abbrev after_actors : List (ServeDone S D C R)
  after_actors = map done.Script ss ++ last

  abbrev whole : List (ServeDone S D C R)
  whole = map done.Actor xs ++ after_actors

  of_actors : flat_map actor_of whole ≡ xs
  of_actors = own done.Actor actor_of (λ e. refl) xs after_actors ∙ ap (λ (l : List (ActorDone R)). xs ++ l) (
      other done.Script actor_of (λ e. refl) ss last ∙ other done.Worker actor_of (λ e. refl) ws []) ∙ append-nil xs

  of_scripts : flat_map script_of whole ≡ ss
  of_scripts = other done.Actor script_of (λ e. refl) xs after_actors ∙ (own done.Script script_of (λ e. refl) ss last
      ∙ ap (λ (l : List (FileDone S)). ss ++ l) (other done.Worker script_of (λ e. refl) ws []) ∙ append-nil ss)

  of_workers : flat_map worker_of whole ≡ ws
  of_workers = other done.Actor worker_of (λ e. refl) xs after_actors ∙ (other done.Script worker_of (λ e. refl) ss last
      ∙ (own done.Worker worker_of (λ e. refl) ws [] ∙ append-nil ws))

module _ {S D C R : Type 0} (left : S → Option (List ℕ)) (faults : S → ℕ) (door_tale : D → DoorTale) (door_faults : D → ℕ) (clock_tale : C → ClockTale) where
  -- what a part gives
  abbrev Gives : ServePart S D C R → ServeDone S D C R → Type 0
  Gives = ServeGives left faults door_tale door_faults clock_tale

  -- what a script's part gives
  abbrev ScriptGives : FilePart S R → FileDone S → Type 0
  ScriptGives = FileGives left faults

  -- what a worker's part gives
  abbrev WorkGives : WorkerPart D C QuietNotes R → WorkerDone D C QuietNotes → Type 0
  WorkGives = DoorPartGives door_tale door_faults clock_tale

  actor_fits : (p : ActorPart R) (d : ServeDone S D C R) → Gives (part.Actor p) d → (e : ActorDone R) × (d ≡ done.Actor e) × ActorGives p e
  actor_fits p (done.Actor e) gave = (e, refl, gave)
  actor_fits p (done.Script e) gave = absurd gave
  actor_fits p (done.Worker e) gave = absurd gave

  script_fits : (p : FilePart S R) (d : ServeDone S D C R) → Gives (part.Script p) d → (e : FileDone S) × (d ≡ done.Script e) × ScriptGives p e
  script_fits p (done.Actor e) gave = absurd gave
  script_fits p (done.Script e) gave = (e, refl, gave)
  script_fits p (done.Worker e) gave = absurd gave

  worker_fits : (p : WorkerPart D C QuietNotes R) (d : ServeDone S D C R) → Gives (part.Worker p) d → (e : WorkerDone D C QuietNotes) × (d ≡ done.Worker e) × WorkGives p e
  worker_fits p (done.Actor e) gave = absurd gave
  worker_fits p (done.Script e) gave = absurd gave
  worker_fits p (done.Worker e) gave = (e, refl, gave)

  none_left : (ds : List (ServeDone S D C R)) → AllZip Gives [] ds → ds ≡ []
  none_left [] gave = refl
  none_left (d ∷ ds) gave = absurd gave

  -- each kind gave what its parts may give, where the kinds stand one after another
  in_order : (actors : List (ActorPart R)) (scripts : List (FilePart S R)) (workers : List (WorkerPart D C QuietNotes R)) (dones : List (ServeDone S D C R))
      (xs : List (ActorDone R)) (ss : List (FileDone S)) (ws : List (WorkerDone D C QuietNotes))
      → dones ≡ whole xs ss ws → AllZip ActorGives actors xs → AllZip ScriptGives scripts ss → AllZip WorkGives workers ws
      → GaveByKind S D C R left faults door_tale door_faults clock_tale actors scripts workers dones
  in_order actors scripts workers dones xs ss ws is a s w = subst (GaveByKind S D C R left faults door_tale door_faults clock_tale actors scripts workers) (sym is) (record {
    actors_gave = subst (AllZip ActorGives actors) (sym (of_actors xs ss ws)) a;
    scripts_gave = subst (AllZip ScriptGives scripts) (sym (of_scripts xs ss ws)) s;
    workers_gave = subst (AllZip WorkGives workers) (sym (of_workers xs ss ws)) w;
  })

  pub by_kind : SplitsByKind S D C R left faults door_tale door_faults clock_tale
  by_kind actors scripts workers dones gave =
      let a = in_front done.Actor Gives ActorGives part.Actor actor_fits actors (map part.Script scripts ++ map part.Worker workers) dones gave in
      let s = in_front done.Script Gives ScriptGives part.Script script_fits scripts (map part.Worker workers) a.1 a.4 in
      let workers_left : AllZip Gives (map part.Worker workers ++ []) s.1 = subst (λ (l : List (ServePart S D C R)). AllZip Gives l s.1) (sym (append-nil (map part.Worker workers))) s.4 in
      let w = in_front done.Worker Gives WorkGives part.Worker worker_fits workers [] s.1 workers_left in
      let after_workers : s.1 ≡ last a.0 s.0 w.0 = w.2 ∙ ap (λ (l : List (ServeDone S D C R)). map done.Worker w.0 ++ l) (none_left w.1 w.4) in
      let after_scripts : a.1 ≡ after_actors a.0 s.0 w.0 = s.2 ∙ ap (λ (l : List (ServeDone S D C R)). map done.Script s.0 ++ l) after_workers in
      in_order actors scripts workers dones a.0 s.0 w.0 (a.2 ∙ ap (λ (l : List (ServeDone S D C R)). map done.Actor a.0 ++ l) after_scripts) a.3 s.3 w.3
