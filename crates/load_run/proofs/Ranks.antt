-- Which fault a load answers, and its cause.
use Rattle.std.proofs.Common.{◌≡◌, ◌⊎◌, ℕ, Bool, true, false, Some, None, Result, Ok, Err, inl, inr, refl, sym}
use Rattle.std.proofs.lemmas.Option.{same_Some, none-some}
use Rattle.std.specs.declared.alloc.AllocError.{AllocError}
use Rattle.edit_post.specs.declared.send_refused.SendRefused.{SendRefused}
use Rattle.edit_post.specs.declared.send_refused.SendRefused.TheVariants as post
use Rattle.worker_run.specs.declared.fault.WorkFault.{WorkFault}
use Rattle.worker_run.specs.declared.fault.WorkFault.TheVariants as work
use Rattle.client_run.specs.declared.driven.Driven.{Driven}
use Rattle.client_run.specs.declared.fault.DriveFault.{DriveFault}
use Rattle.client_run.specs.declared.fault.DriveFault.TheVariants as drive
use Rattle.gate_parts.specs.declared.ending.Ending.{Ending}
use Rattle.gate_parts.specs.declared.ending.Ending.TheVariants.{Ran, Stopped}
use Rattle.load_run.specs.declared.fault.LoadFault.{LoadFault}
use Rattle.load_run.specs.declared.fault.LoadFault.TheVariants.{Memory, Spent, Start, Door, Out, BadText}
use Rattle.load_run.specs.Faults.{actor_fault, script_fault, worker_fault, client_fault, start_fault}

pub all_started : (b : Bool) → start_fault b ≡ None → b ≡ true
all_started true e = refl
all_started false e = absurd (none-some Start (sym e))

pub is_start : (b : Bool) (f : LoadFault) → start_fault b ≡ Some f → (b ≡ false) × (f ≡ Start)
is_start true f e = absurd (none-some f e)
is_start false f e = (refl, sym (same_Some Start f e))

-- ---- by which fault a part has ended

pub of_actor : {T : Type 0} (e : Ending (Result T AllocError)) (f : LoadFault) → actor_fault e ≡ Some f → f ≡ Memory
of_actor (Ran (Ok r)) f h = absurd (none-some f h)
of_actor (Ran (Err x)) f h = sym (same_Some Memory f h)
of_actor Stopped f h = absurd (none-some f h)

pub of_script : (e : Ending (Result (Unit {0}) SendRefused)) (f : LoadFault) → script_fault e ≡ Some f → (f ≡ Memory) ⊎ ((f ≡ Spent) × (e ≡ Ran (Err post.Spent)))
of_script (Ran (Ok u)) f h = absurd (none-some f h)
of_script (Ran (Err post.Spent)) f h = inr (sym (same_Some Spent f h), refl)
of_script (Ran (Err post.Memory)) f h = inl (sym (same_Some Memory f h))
of_script Stopped f h = absurd (none-some f h)

pub of_worker : {T : Type 0} (e : Ending (Result T WorkFault)) (f : LoadFault) → worker_fault e ≡ Some f → (f ≡ Memory) ⊎ (((f ≡ Spent) × (e ≡ Ran (Err work.Spent))) ⊎ ((f ≡ Door) × (e ≡ Ran (Err work.Door))))
of_worker (Ran (Ok r)) f h = absurd (none-some f h)
of_worker (Ran (Err work.Door)) f h = inr (inr (sym (same_Some Door f h), refl))
of_worker (Ran (Err work.Quit)) f h = inl (sym (same_Some Memory f h))
of_worker (Ran (Err work.Spent)) f h = inr (inl (sym (same_Some Spent f h), refl))
of_worker (Ran (Err work.Memory)) f h = inl (sym (same_Some Memory f h))
of_worker Stopped f h = absurd (none-some f h)

pub of_client : (r : Result Driven DriveFault) (f : LoadFault) → client_fault r ≡ Some f → (f ≡ Memory) ⊎ (((code : ℕ) × ((f ≡ Out code) × (r ≡ Err (drive.Out code)))) ⊎ ((f ≡ BadText) × (r ≡ Err drive.BadText)))
of_client (Ok d) f h = absurd (none-some f h)
of_client (Err drive.Dials) f h = inl (sym (same_Some Memory f h))
of_client (Err (drive.Out code)) f h = inr (inl (code, (sym (same_Some (Out code) f h), refl)))
of_client (Err drive.BadText) f h = inr (inr (sym (same_Some BadText f h), refl))
of_client (Err drive.Memory) f h = inl (sym (same_Some Memory f h))
