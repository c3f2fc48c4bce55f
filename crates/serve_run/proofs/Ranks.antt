-- Which fault a run answers, and its cause.
use Rattle.std.proofs.Common.{◌≡◌, ◌⊎◌, ℕ, Bool, true, false, Some, None, Result, Ok, Err, inl, inr, refl, sym, subst}
use Rattle.std.proofs.lemmas.Option.{same_Some, none-some}
use Rattle.std.specs.declared.alloc.AllocError.{AllocError}
use Rattle.file_script.specs.declared.fault.ScriptFault.{ScriptFault}
use Rattle.file_script.specs.declared.fault.ScriptFault.TheVariants as script
use Rattle.worker_run.specs.declared.fault.WorkFault.{WorkFault}
use Rattle.worker_run.specs.declared.fault.WorkFault.TheVariants as work
use Rattle.gate_parts.specs.declared.ending.Ending.{Ending}
use Rattle.gate_parts.specs.declared.ending.Ending.TheVariants.{Ran, Stopped}
use Rattle.serve_run.specs.declared.fault.ServeFault.{ServeFault}
use Rattle.serve_run.specs.declared.fault.ServeFault.TheVariants.{Memory, Spent, Start, Door, Read, Line}
use Rattle.serve_run.specs.Faults.{actor_fault, script_fault, worker_fault, start_fault}

pub all_started : (b : Bool) → start_fault b ≡ None → b ≡ true
all_started true e = refl
all_started false e = absurd (none-some Start (sym e))

pub is_start : (b : Bool) (f : ServeFault) → start_fault b ≡ Some f → (b ≡ false) × (f ≡ Start)
is_start true f e = absurd (none-some f e)
is_start false f e = (refl, sym (same_Some Start f e))

-- ---- by which fault a part has ended

pub of_actor : {T : Type 0} (e : Ending (Result T AllocError)) (f : ServeFault) → actor_fault e ≡ Some f → f ≡ Memory
of_actor (Ran (Ok r)) f h = absurd (none-some f h)
of_actor (Ran (Err x)) f h = sym (same_Some Memory f h)
of_actor Stopped f h = absurd (none-some f h)

-- what a script's fault says of how it has ended
abbrev pub ScriptFaultOf : ℕ → Ending (Result (Unit {0}) ScriptFault) → ServeFault → Type 0
ScriptFaultOf file e Memory = Unit {0}
ScriptFaultOf file e Spent = e ≡ Ran (Err script.Spent)
ScriptFaultOf file e Read = e ≡ Ran (Err script.Read)
ScriptFaultOf file e (Line number line fault) = (number ≡ file) × (e ≡ Ran (Err (script.Line line fault)))
ScriptFaultOf file e f = ⊥

pub of_script : (file : ℕ) (e : Ending (Result (Unit {0}) ScriptFault)) (f : ServeFault) → script_fault file e ≡ Some f → ScriptFaultOf file e f
of_script file (Ran (Ok u)) f h = absurd (none-some f h)
of_script file (Ran (Err script.Read)) f h = subst (ScriptFaultOf file (Ran (Err script.Read))) (same_Some Read f h) refl
of_script file (Ran (Err (script.Line line fault))) f h = subst (ScriptFaultOf file (Ran (Err (script.Line line fault)))) (same_Some (Line file line fault) f h) (refl, refl)
of_script file (Ran (Err script.Spent)) f h = subst (ScriptFaultOf file (Ran (Err script.Spent))) (same_Some Spent f h) refl
of_script file (Ran (Err script.Memory)) f h = subst (ScriptFaultOf file (Ran (Err script.Memory))) (same_Some Memory f h) tt
of_script file Stopped f h = absurd (none-some f h)

pub of_worker : {T : Type 0} (e : Ending (Result T WorkFault)) (f : ServeFault) → worker_fault e ≡ Some f → (f ≡ Memory) ⊎ (((f ≡ Spent) × (e ≡ Ran (Err work.Spent))) ⊎ ((f ≡ Door) × (e ≡ Ran (Err work.Door))))
of_worker (Ran (Ok r)) f h = absurd (none-some f h)
of_worker (Ran (Err work.Door)) f h = inr (inr (sym (same_Some Door f h), refl))
of_worker (Ran (Err work.Quit)) f h = inl (sym (same_Some Memory f h))
of_worker (Ran (Err work.Spent)) f h = inr (inl (sym (same_Some Spent f h), refl))
of_worker (Ran (Err work.Memory)) f h = inl (sym (same_Some Memory f h))
of_worker Stopped f h = absurd (none-some f h)
