-- What is known of the parts of a load when they have run.
use Rattle.std.proofs.Common.{◌≡◌, ℕ, zero, suc, ◌+◌, List, [], ◌∷◌, ◌++◌, map, length, Some, Err, inl, inr, refl, sym, subst, ⊎_elim}
use Rattle.std.specs.List.{AllZip, range_with_len}
use Rattle.atomic_table.specs.Seated.{TableId}
use Rattle.std.specs.Global.{Global}
use Rattle.crossbeam_queue.specs.SegTies.{SegId}
use Rattle.edit_post.specs.Post.{PostId}
use Rattle.client_run.specs.declared.fault.DriveFault.TheVariants as drive
use Rattle.gate_outside.specs.Clocks.{ClockTale}
use Rattle.guild_hub.specs.Writes.{Publishing}
use Rattle.thread_outside.specs.DialledDoors.{DialledState}
use Rattle.thread_outside.specs.declared.kept_notes.KeptNotes.{KeptNotes}
use Rattle.worker_core.specs.declared.io.Input.{Input}
use Rattle.gate_parts.specs.declared.actor_part.ActorPart.{ActorPart}
use Rattle.gate_parts.specs.declared.script_part.ScriptPart.{ScriptPart}
use Rattle.gate_parts.specs.declared.worker_part.WorkerPart.{WorkerPart}
use Rattle.load_parts.specs.Parts.{LoadGives}
use Rattle.load_parts.specs.declared.client_part.ClientPart.{ClientPart}
use Rattle.load_parts.specs.declared.load_part.LoadPart.{LoadPart}
use Rattle.load_parts.specs.declared.load_part.LoadPart.TheVariants as part
use Rattle.load_parts.specs.declared.load_part.LoadDone.{LoadDone}
use Rattle.load_parts.specs.declared.load_part.LoadDone.TheVariants as done
use Rattle.load_stage.specs.Parts.{IsScript, IsWorker}
use Rattle.load_stage.specs.Clients.{IsClient}
use Rattle.gate_ends.specs.Done.{worker_end}
use Rattle.gate_ends.proofs.Ranks.{AnyIs}
use Rattle.load_run.specs.declared.fault.LoadFault.{LoadFault}
use Rattle.load_run.specs.declared.fault.LoadFault.TheVariants.{Memory, Spent, Door, Out, BadText}
use Rattle.load_run.specs.Causes.{LoadCause}
use Rattle.load_run.specs.Ends.{clock_of_part, clock_of_done}
use Rattle.load_run.specs.Faults.{fault_of}
use Rattle.load_parts.specs.ByKind.{parts_of}
use Rattle.load_run.specs.Sorted.{script_end, ended_of}
use Rattle.load_run.proofs.Ranks.{of_actor, of_script, of_worker, of_client}
use Rattle.load_run.proofs.Staged.{one_script, one_worker, one_client}

module _ (C R : Type 0) (clock_tale : C → ClockTale) (seed : ℕ) (posts : List PostId) (flag : TableId) (writers : List (ℕ × Publishing)) (queues : List (SegId Global)) (clocks : List C) where
  -- how a part was set up
  abbrev Knows : LoadPart C R → Type 0
  Knows (part.Actor p) = Unit {0}
  Knows (part.Script p) = (n : ℕ) × IsScript posts flag seed n p
  Knows (part.Worker p) = (n : ℕ) × IsWorker posts flag writers queues clocks n p
  Knows (part.Client p) = (n : ℕ) × IsClient flag queues clocks n p

  abbrev pub AllKnown : List (LoadPart C R) → Type 0
  AllKnown [] = Unit {0}
  AllKnown (p ∷ ps) = Knows p × AllKnown ps

  known_actors : (az : List (ActorPart R)) (rest : List (LoadPart C R)) → AllKnown rest → AllKnown (map part.Actor az ++ rest)
  known_actors [] rest h = h
  known_actors (a ∷ az) rest h = (tt, known_actors az rest h)

  known_scripts : (k n : ℕ) (ss : List (ScriptPart R)) (rest : List (LoadPart C R)) → AllZip (IsScript posts flag seed) (range_with_len k n) ss → AllKnown rest → AllKnown (map part.Script ss ++ rest)
  known_scripts k n [] rest z h = h
  known_scripts k zero (s ∷ ss) rest z h = elim z [ ]
  known_scripts k (suc n) (s ∷ ss) rest z h = ((k, z.0), known_scripts (k + 1) n ss rest z.1 h)

  known_workers : (k n : ℕ) (ws : List (WorkerPart DialledState C (KeptNotes Input) R)) (rest : List (LoadPart C R)) → AllZip (IsWorker posts flag writers queues clocks) (range_with_len k n) ws → AllKnown rest → AllKnown (map part.Worker ws ++ rest)
  known_workers k n [] rest z h = h
  known_workers k zero (w ∷ ws) rest z h = elim z [ ]
  known_workers k (suc n) (w ∷ ws) rest z h = ((k, z.0), known_workers (k + 1) n ws rest z.1 h)

  known_clients : (k n : ℕ) (cs : List (ClientPart C R)) → AllZip (IsClient flag queues clocks) (range_with_len k n) cs → AllKnown (map part.Client cs)
  known_clients k n [] z = tt
  known_clients k zero (c ∷ cs) z = elim z [ ]
  known_clients k (suc n) (c ∷ cs) z = ((k, z.0), known_clients (k + 1) n cs z.1)

  pub all_known : (az : List (ActorPart R)) (ss : List (ScriptPart R)) (ws : List (WorkerPart DialledState C (KeptNotes Input) R)) (cs : List (ClientPart C R))
      → AllZip (IsScript posts flag seed) (range_with_len 0 4) ss → AllZip (IsWorker posts flag writers queues clocks) (range_with_len 0 3) ws → AllZip (IsClient flag queues clocks) (range_with_len 0 12) cs → AllKnown (parts_of az ss ws cs)
  all_known az ss ws cs s w c =
      known_actors az (map part.Script ss ++ (map part.Worker ws ++ map part.Client cs))
      (known_scripts 0 4 ss (map part.Worker ws ++ map part.Client cs) s (known_workers 0 3 ws (map part.Client cs) w (known_clients 0 12 cs c)))

  pub known_front : (front back : List (LoadPart C R)) → AllKnown (front ++ back) → AllKnown front
  known_front [] back h = tt
  known_front (p ∷ ps) back h = (h.0, known_front ps back h.1)

  -- the cause of a part's fault
  module _ (team0 team1 sink0 sink1 : ℕ) where
    abbrev Cause : LoadFault → Type 0
    Cause f = LoadCause seed team0 team1 sink0 sink1 f

    by_memory : (f : LoadFault) → f ≡ Memory → Cause f
    by_memory f e = subst Cause (sym e) tt

    cause_of : (p : LoadPart C R) (d : LoadDone C R) (f : LoadFault) → Knows p → LoadGives clock_tale p d → fault_of d ≡ Some f → Cause f
    cause_of (part.Actor p) (done.Actor d) f knows gives e = by_memory f (of_actor d.ending f e)
    cause_of (part.Script p) (done.Script d) f knows gives e =
        ⊎_elim (by_memory f) (λ (h : (f ≡ Spent) × (d.ending ≡ _)). subst Cause (sym h.0) (inl (posts, (knows.0, (script_end d, (one_script posts flag writers seed knows.0 p d knows.1 gives, h.1)))))) (of_script d.ending f e)
    cause_of (part.Worker p) (done.Worker d) f knows gives e =
        let ends = one_worker posts flag writers clock_tale queues clocks knows.0 p d knows.1 gives in
        ⊎_elim (by_memory f) (λ h. ⊎_elim
        (λ (s : (f ≡ Spent) × (d.ending ≡ _)). subst Cause (sym s.0) (inr (posts, (writers, (knows.0, (worker_end d, (ends, s.1)))))))
        (λ (s : (f ≡ Door) × (d.ending ≡ _)). subst Cause (sym s.0) (posts, (writers, (knows.0, (worker_end d, (ends, s.1))))))
        h) (of_worker d.ending f e)
    cause_of (part.Client p) (done.Client d) f knows gives e =
        let ends = one_client clock_tale flag queues clocks knows.0 p d knows.1 gives in
        ⊎_elim (by_memory f) (λ h. ⊎_elim
        (λ (s : (code : ℕ) × ((f ≡ Out code) × (d.ended.driven ≡ Err (drive.Out code)))). subst Cause (sym s.1.0) (flag, (knows.0, (ended_of d, (ends, s.1.1)))))
        (λ (s : (f ≡ BadText) × (d.ended.driven ≡ Err drive.BadText)). subst Cause (sym s.0) (flag, (knows.0, (ended_of d, (ends, s.1)))))
        h) (of_client d.ended.driven f e)
    cause_of (part.Actor p) (done.Script d) f knows gives e = elim gives [ ]
    cause_of (part.Actor p) (done.Worker d) f knows gives e = elim gives [ ]
    cause_of (part.Actor p) (done.Client d) f knows gives e = elim gives [ ]
    cause_of (part.Script p) (done.Actor d) f knows gives e = elim gives [ ]
    cause_of (part.Script p) (done.Worker d) f knows gives e = elim gives [ ]
    cause_of (part.Script p) (done.Client d) f knows gives e = elim gives [ ]
    cause_of (part.Worker p) (done.Actor d) f knows gives e = elim gives [ ]
    cause_of (part.Worker p) (done.Script d) f knows gives e = elim gives [ ]
    cause_of (part.Worker p) (done.Client d) f knows gives e = elim gives [ ]
    cause_of (part.Client p) (done.Actor d) f knows gives e = elim gives [ ]
    cause_of (part.Client p) (done.Script d) f knows gives e = elim gives [ ]
    cause_of (part.Client p) (done.Worker d) f knows gives e = elim gives [ ]

    pub any_cause : (ps : List (LoadPart C R)) (ds : List (LoadDone C R)) (f : LoadFault) → AllKnown ps → AllZip (LoadGives clock_tale) ps ds → AnyIs f (map fault_of ds) → Cause f
    any_cause [] [] f known z any = absurd any
    any_cause [] (d ∷ ds) f known z any = elim z [ ]
    any_cause (p ∷ ps) [] f known z any = elim z [ ]
    any_cause (p ∷ ps) (d ∷ ds) f known z any = ⊎_elim (cause_of p d f known.0 z.0) (any_cause ps ds f known.1 z.1) any

-- ---- a clock for a clock

module _ {C R : Type 0} (clock_tale : C → ClockTale) where
  pub same_clock : (p : LoadPart C R) (d : LoadDone C R) → LoadGives clock_tale p d → length (clock_of_done d) ≡ length (clock_of_part p)
  same_clock (part.Actor p) (done.Actor d) g = refl
  same_clock (part.Script p) (done.Script d) g = refl
  same_clock (part.Worker p) (done.Worker d) g = refl
  same_clock (part.Client p) (done.Client d) g = refl
  same_clock (part.Actor p) (done.Script d) g = elim g [ ]
  same_clock (part.Actor p) (done.Worker d) g = elim g [ ]
  same_clock (part.Actor p) (done.Client d) g = elim g [ ]
  same_clock (part.Script p) (done.Actor d) g = elim g [ ]
  same_clock (part.Script p) (done.Worker d) g = elim g [ ]
  same_clock (part.Script p) (done.Client d) g = elim g [ ]
  same_clock (part.Worker p) (done.Actor d) g = elim g [ ]
  same_clock (part.Worker p) (done.Script d) g = elim g [ ]
  same_clock (part.Worker p) (done.Client d) g = elim g [ ]
  same_clock (part.Client p) (done.Actor d) g = elim g [ ]
  same_clock (part.Client p) (done.Script d) g = elim g [ ]
  same_clock (part.Client p) (done.Worker d) g = elim g [ ]
