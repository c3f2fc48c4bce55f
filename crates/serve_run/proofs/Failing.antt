-- A door or a source that failed goes back with its count of faults.
use Rattle.std.proofs.Common.{◌≡◌, ◌⊎◌, ⊎_elim, ℕ, zero, suc, ◌+◌, ◌<◌, Bool, List, [], ◌∷◌, ◌++◌, map, flat_map, Option, Some, None, Result, Ok, Err, inl, inr, refl, sym, ap, subst, arith}
use Rattle.std.proofs.lemmas.List.{map-append}
use Rattle.gate_outside.specs.Causes.{Rose}
use Rattle.gate_outside.specs.Clocks.{ClockTale}
use Rattle.gate_outside.specs.Doors.{DoorTale}
use Rattle.thread_outside.specs.declared.quiet_notes.QuietNotes.{QuietNotes}
use Rattle.edit_text.specs.declared.line.Line.{Line as ALine}
use Rattle.file_script.specs.Sends.{SendCause}
use Rattle.file_script.specs.declared.fault.ScriptFault.{ScriptFault}
use Rattle.file_script.specs.declared.fault.ScriptFault.TheVariants as script
use Rattle.worker_run.specs.declared.fault.WorkFault.{WorkFault}
use Rattle.worker_run.specs.declared.fault.WorkFault.TheVariants as work
use Rattle.worker_run.specs.declared.report.WorkReport.{WorkReport}
use Rattle.gate_parts.specs.Workers.{WorksOrStops, outside_before, outside_after}
use Rattle.gate_parts.specs.declared.actor_part.ActorDone.{ActorDone}
use Rattle.gate_parts.specs.declared.ending.Ending.{Ending}
use Rattle.gate_parts.specs.declared.ending.Ending.TheVariants.{Ran}
use Rattle.gate_parts.specs.declared.worker_part.WorkerPart.{WorkerPart}
use Rattle.gate_parts.specs.declared.worker_part.WorkerDone.{WorkerDone}
use Rattle.run_stage.specs.Dealing.{AreFrom}
use Rattle.serve_parts.specs.Files.{FileGives, SendsOrStops as PartSends}
use Rattle.serve_parts.specs.Kinds.{script_of, worker_of}
use Rattle.serve_parts.specs.Parts.{DoorPartGives}
use Rattle.serve_parts.specs.declared.file_part.FilePart.{FilePart}
use Rattle.serve_parts.specs.declared.file_part.FileDone.{FileDone}
use Rattle.serve_parts.specs.declared.serve_part.ServeDone.{ServeDone}
use Rattle.serve_parts.specs.declared.serve_part.ServeDone.TheVariants as done
use Rattle.serve_run.specs.Faults.{actor_faults, script_faults, worker_faults, first_fault, rank, start_fault}
use Rattle.serve_run.specs.Sorted.{file_end, source_of, door_of}
use Rattle.serve_run.specs.Files.{FileEnd}
use Rattle.serve_run.specs.declared.fault.ServeFault.{ServeFault}
use Rattle.serve_run.specs.declared.fault.ServeFault.TheVariants.{Memory, Spent, Start, Door, Read, Line, Write}
use Rattle.serve_run.proofs.Ranks.{ScriptFaultOf, is_start, of_actor, of_script, of_worker}
use Rattle.gate_ends.specs.Done.{worker_end}
use Rattle.gate_ends.specs.declared.ending.WorkerEnd.{WorkerEnd}
use Rattle.gate_ends.proofs.Ranks.{AnyIs, first_is}
use Rattle.serve_run.specs.Causes.{HasFailed, ShowsFault}
use Rattle.serve_run.proofs.Fronts.{ZipFront}
use Rattle.serve_run.proofs.Ranking.{any_of}

later_failed : (ns ms : List ℕ) → HasFailed ms → HasFailed (ns ++ ms)
later_failed [] ms h = h
later_failed (n ∷ ns) ms h = inr (later_failed ns ms h)

-- ---- of doors

module _ {D C R : Type 0} (door_tale : D → DoorTale) (door_faults : D → ℕ) (clock_tale : C → ClockTale) where
  door_rose : (p : WorkerPart D C QuietNotes R) (d : WorkerDone D C QuietNotes) → (e : Ending (Result WorkReport WorkFault)) → e ≡ Ran (Err work.Door)
      → WorksOrStops p.worker (outside_before door_tale door_faults clock_tale (λ quiet. None) p) e (outside_after door_tale door_faults clock_tale (λ quiet. None) d) → 0 < door_faults d.door
  door_rose p d e is works =
      let before = outside_before door_tale door_faults clock_tale (λ quiet. None) p in
      let after = outside_after door_tale door_faults clock_tale (λ quiet. None) d in
      let failed = subst (λ (x : Ending (Result WorkReport WorkFault)). WorksOrStops p.worker before x after) is works in
      let rose : Rose (door_faults p.door) (door_faults d.door) = failed.1.answers.0 in
      omega (arith, rose)

  doors_failed : (ps : List (WorkerPart D C QuietNotes R)) (ds : List (WorkerDone D C QuietNotes)) → ZipFront (DoorPartGives door_tale door_faults clock_tale) ps ds
      → AnyIs Door (worker_faults (map worker_end ds)) → HasFailed (map door_faults (map (λ d. d.door) ds))
  doors_failed ps [] z any = absurd any
  doors_failed [] (d ∷ ds) z any = elim z [ ]
  doors_failed (p ∷ ps) (d ∷ ds) z (inl e) =
      ⊎_elim (λ m. absurd (cc)) (λ r. ⊎_elim (λ s. absurd (cc)) (λ s. inl (door_rose p d d.ending s.1 z.0.works)) r) (of_worker d.ending Door e)
  doors_failed (p ∷ ps) (d ∷ ds) z (inr more) = inr (doors_failed ps ds z.1 more)

-- ---- of sources

read_rose : (before now : ℕ) (first : Result (Option ALine) ScriptFault) → (first ≡ Err script.Read → 0 < before) → SendCause first before now (Err script.Read) → 0 < now
read_rose before now (Ok line) head h = omega (arith, h)
read_rose before now (Err fault) head h =
    let answered = h.0 in
    let same : fault ≡ script.Read = cc in
    let some : 0 < before = head (ap Err same) in
    omega (arith, some, h.1)

module _ {S R : Type 0} (left : S → Option (List ℕ)) (faults : S → ℕ) where
  source_rose : (p : FilePart S R) (d : FileDone S) → (p.script.first ≡ Err script.Read → 0 < faults p.source) → (e : Ending (Result (Unit {0}) ScriptFault)) → e ≡ Ran (Err script.Read)
      → PartSends left faults p d e → 0 < faults d.source
  source_rose p d head e is sends =
      let failed = subst (λ (x : Ending (Result (Unit {0}) ScriptFault)). PartSends left faults p d x) is sends in
      read_rose (faults p.source) (faults d.source) p.script.first head failed.1

  -- where a head that failed shows in its source
  sources_failed : (Is : ℕ → FilePart S R → Type 0) → ((n : ℕ) (p : FilePart S R) → Is n p → p.script.first ≡ Err script.Read → 0 < faults p.source)
      → (k n file : ℕ) (ps : List (FilePart S R)) (ds : List (FileDone S)) → AreFrom Is k n ps → ZipFront (FileGives left faults) ps ds
      → AnyIs Read (script_faults file (map file_end ds)) → HasFailed (map faults (map (λ d. d.source) ds))
  sources_failed Is heads k n file ps [] are z any = absurd any
  sources_failed Is heads k n file [] (d ∷ ds) are z any = elim z [ ]
  sources_failed Is heads k zero file (p ∷ ps) (d ∷ ds) are z any = elim are [ ]
  sources_failed Is heads k (suc n) file (p ∷ ps) (d ∷ ds) are z (inl e) = inl (source_rose p d (heads k p are.0) d.ending (of_script file d.ending Read e) z.0.sends)
  sources_failed Is heads k (suc n) file (p ∷ ps) (d ∷ ds) are z (inr more) = inr (sources_failed Is heads (k + 1) n (file + 1) ps ds are.1 z.1 more)

-- ---- which kind of parts has the fault

module _ {R : Type 0} where
  no_actor : (f : ServeFault) (es : List (ActorDone R)) → (f ≡ Memory → ⊥) → AnyIs f (actor_faults es) → ⊥
  no_actor f [] other h = h
  no_actor f (e ∷ es) other (inl h) = other (of_actor e.ending f h)
  no_actor f (e ∷ es) other (inr h) = no_actor f es other h

no_script : (f : ServeFault) → ((file : ℕ) (e : Ending (Result (Unit {0}) ScriptFault)) → ScriptFaultOf file e f → ⊥) → (file : ℕ) (es : List FileEnd) → AnyIs f (script_faults file es) → ⊥
no_script f never file [] h = h
no_script f never file (e ∷ es) (inl h) = never file e.ending (of_script file e.ending f h)
no_script f never file (e ∷ es) (inr h) = no_script f never (file + 1) es h

no_worker : (es : List WorkerEnd) → AnyIs Read (worker_faults es) → ⊥
no_worker [] h = h
no_worker (e ∷ es) (inl h) = ⊎_elim (λ m. absurd (cc)) (λ r. ⊎_elim (λ s. absurd (cc)) (λ s. absurd (cc)) r) (of_worker e.ending Read h)
no_worker (e ∷ es) (inr h) = no_worker es h

module _ {R : Type 0} (started : Bool) (actors : List (ActorDone R)) (scripts : List FileEnd) (workers : List WorkerEnd) where
  parts_any : (f : ServeFault) → (f ≡ Start → ⊥) → first_fault started actors scripts workers ≡ Some f → AnyIs f (actor_faults actors ++ (script_faults 1 scripts ++ worker_faults workers))
  parts_any f other e = ⊎_elim (λ s. absurd (other (is_start started f s).1)) (λ any. any) (first_is rank (start_fault started) (actor_faults actors ++ (script_faults 1 scripts ++ worker_faults workers)) f e)

  pub of_doors : first_fault started actors scripts workers ≡ Some Door → AnyIs Door (worker_faults workers)
  of_doors e =
      ⊎_elim (λ a. absurd (no_actor Door actors (λ m. absurd (cc)) a))
      (λ more. ⊎_elim (λ s. absurd (no_script Door (λ file e h. h) 1 scripts s)) (λ w. w) (any_of Door (script_faults 1 scripts) (worker_faults workers) more))
      (any_of Door (actor_faults actors) (script_faults 1 scripts ++ worker_faults workers) (parts_any Door (λ s. absurd (cc)) e))

  pub of_sources : first_fault started actors scripts workers ≡ Some Read → AnyIs Read (script_faults 1 scripts)
  of_sources e =
      ⊎_elim (λ a. absurd (no_actor Read actors (λ m. absurd (cc)) a))
      (λ more. ⊎_elim (λ s. s) (λ w. absurd (no_worker workers w)) (any_of Read (script_faults 1 scripts) (worker_faults workers) more))
      (any_of Read (actor_faults actors) (script_faults 1 scripts ++ worker_faults workers) (parts_any Read (λ s. absurd (cc)) e))

-- ---- among what goes back

module _ {S D C R : Type 0} where
  all_doors : (ds : List (ServeDone S D C R)) → flat_map door_of ds ≡ map (λ d. d.door) (flat_map worker_of ds)
  all_doors [] = refl
  all_doors (done.Actor d ∷ ds) = all_doors ds
  all_doors (done.Script d ∷ ds) = all_doors ds
  all_doors (done.Worker d ∷ ds) = ap (λ (l : List D). d.door ∷ l) (all_doors ds)

  all_sources : (ds : List (ServeDone S D C R)) → flat_map source_of ds ≡ map (λ d. d.source) (flat_map script_of ds)
  all_sources [] = refl
  all_sources (done.Actor d ∷ ds) = all_sources ds
  all_sources (done.Script d ∷ ds) = ap (λ (l : List S). d.source ∷ l) (all_sources ds)
  all_sources (done.Worker d ∷ ds) = all_sources ds

-- what was added to others
among : {X : Type 0} (faults : X → ℕ) (back xs all : List X) → all ≡ back ++ xs → HasFailed (map faults xs) → HasFailed (map faults all)
among faults back xs all is h =
    subst (λ l. HasFailed (map faults l)) (sym is)
    (subst HasFailed (sym (map-append faults back xs)) (later_failed (map faults back) (map faults xs) h))

-- ---- all together

module _ {S D C R : Type 0} (left : S → Option (List ℕ)) (faults : S → ℕ) (door_tale : D → DoorTale) (door_faults : D → ℕ) (clock_tale : C → ClockTale)
    (Is : ℕ → FilePart S R → Type 0) (heads : (n : ℕ) (p : FilePart S R) → Is n p → p.script.first ≡ Err script.Read → 0 < faults p.source)
    (count : ℕ) (scripts : List (FilePart S R)) (workers : List (WorkerPart D C QuietNotes R)) (ds : List (ServeDone S D C R)) (are : AreFrom Is 0 count scripts)
    (of_scripts : ZipFront (FileGives left faults) scripts (flat_map script_of ds)) (of_workers : ZipFront (DoorPartGives door_tale door_faults clock_tale) workers (flat_map worker_of ds))
    (back_sources sources : List S) (sources_are : sources ≡ back_sources ++ flat_map source_of ds) (back_doors doors : List D) (doors_are : doors ≡ back_doors ++ flat_map door_of ds)
    (started : Bool) (actors : List (ActorDone R)) where
  pub shows : (fault : Option ServeFault) → first_fault started actors (map file_end (flat_map script_of ds)) (map worker_end (flat_map worker_of ds)) ≡ fault → ShowsFault (map faults sources) (map door_faults doors) fault
  shows None e = tt
  shows (Some Memory) e = tt
  shows (Some Spent) e = tt
  shows (Some Start) e = tt
  shows (Some Door) e =
      let any = of_doors started actors (map file_end (flat_map script_of ds)) (map worker_end (flat_map worker_of ds)) e in
      let failed = doors_failed door_tale door_faults clock_tale workers (flat_map worker_of ds) of_workers any in
      among door_faults back_doors (flat_map door_of ds) doors doors_are (subst (λ l. HasFailed (map door_faults l)) (sym (all_doors ds)) failed)
  shows (Some Read) e =
      let any = of_sources started actors (map file_end (flat_map script_of ds)) (map worker_end (flat_map worker_of ds)) e in
      let failed = sources_failed left faults Is heads 0 count 1 scripts (flat_map script_of ds) are of_scripts any in
      among faults back_sources (flat_map source_of ds) sources sources_are (subst (λ l. HasFailed (map faults l)) (sym (all_sources ds)) failed)
  shows (Some (Line file line fault)) e = tt
  shows (Some Write) e = tt
