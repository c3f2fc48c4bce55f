-- Which fault the parts of a run may have had.
use Rattle.std.proofs.Common.{◌≡◌, ◌⊎◌, ⊎_elim, ℕ, ◌+◌, ◌<◌, ◌≤◌, Bool, true, false, List, [], ◌∷◌, ◌++◌, Option, Some, None, inl, inr, refl, sym, ◌∙◌, subst, arith}
use Rattle.std.specs.Prelude.{nat_lt, if◌then◌else◌}
use Rattle.std.specs.List.{fold}
use Rattle.std.proofs.lemmas.Bool.Decides.{Decides-ltb}
use Rattle.std.proofs.lemmas.Option.{same_Some, none-some}
use Rattle.gate_parts.specs.declared.actor_part.ActorDone.{ActorDone}
use Rattle.serve_run.specs.Faults.{actor_faults, script_faults, worker_faults, first_fault, rank, sooner, start_fault}
use Rattle.serve_run.specs.Files.{FileEnd}
use Rattle.serve_run.specs.declared.fault.ServeFault.{ServeFault}
use Rattle.serve_run.specs.declared.fault.ServeFault.TheVariants.{Memory, Spent, Start, Door, Read, Line, Write}
use Rattle.serve_run.proofs.Ranks.{ScriptFaultOf, all_started, of_actor, of_script, of_worker}
use Rattle.gate_ends.specs.declared.ending.WorkerEnd.{WorkerEnd}
use Rattle.gate_ends.proofs.Ranks.{AnyIs, first_is, first_is_none}
use Rattle.serve_run.specs.Ended.{MayHave}

pub any_of : (f : ServeFault) (xs ys : List (Option ServeFault)) → AnyIs f (xs ++ ys) → AnyIs f xs ⊎ AnyIs f ys
any_of f [] ys h = inr h
any_of f (x ∷ xs) ys (inl e) = inl (inl e)
any_of f (x ∷ xs) ys (inr h) = ⊎_elim (λ l. inl (inr l)) (λ r. inr r) (any_of f xs ys h)

-- a fault that a part can end by
abbrev IsOfPart : ServeFault → Type 0
IsOfPart Start = ⊥
IsOfPart Write = ⊥
IsOfPart f = Unit {0}

by_script : (file : ℕ) (e : _) (f : ServeFault) → ScriptFaultOf file e f → IsOfPart f
by_script file e Memory h = tt
by_script file e Spent h = tt
by_script file e Start h = absurd h
by_script file e Door h = absurd h
by_script file e Read h = tt
by_script file e (Line number line fault) h = tt
by_script file e Write h = absurd h

module _ {R : Type 0} where
  of_actors : (f : ServeFault) (es : List (ActorDone R)) → AnyIs f (actor_faults es) → IsOfPart f
  of_actors f [] h = absurd h
  of_actors f (e ∷ es) (inl h) = subst IsOfPart (sym (of_actor e.ending f h)) tt
  of_actors f (e ∷ es) (inr h) = of_actors f es h

of_scripts : (f : ServeFault) (file : ℕ) (es : List FileEnd) → AnyIs f (script_faults file es) → IsOfPart f
of_scripts f file [] h = absurd h
of_scripts f file (e ∷ es) (inl h) = by_script file e.ending f (of_script file e.ending f h)
of_scripts f file (e ∷ es) (inr h) = of_scripts f (file + 1) es h

of_workers : (f : ServeFault) (es : List WorkerEnd) → AnyIs f (worker_faults es) → IsOfPart f
of_workers f [] h = absurd h
of_workers f (e ∷ es) (inl h) =
    ⊎_elim (λ m. subst IsOfPart (sym m) tt) (λ r. ⊎_elim (λ s. subst IsOfPart (sym s.0) tt) (λ s. subst IsOfPart (sym s.0) tt) r) (of_worker e.ending f h)
of_workers f (e ∷ es) (inr h) = of_workers f es h

-- no fault goes after one that is there
no_later : (x : ServeFault) (os : List (Option ServeFault)) → (f : ServeFault) × ((fold sooner (Some x) os ≡ Some f) × (rank f ≤ rank x))
no_later x [] = (x, (refl, omega (arith)))
no_later x (None ∷ os) = no_later x os
no_later x (Some y ∷ os) = by_test (nat_lt (rank y) (rank x)) refl (no_later x os) (no_later y os)
  where
    by_test : (b : Bool) → nat_lt (rank y) (rank x) ≡ b → (f : ServeFault) × ((fold sooner (Some x) os ≡ Some f) × (rank f ≤ rank x))
        → (f : ServeFault) × ((fold sooner (Some y) os ≡ Some f) × (rank f ≤ rank y))
        → (f : ServeFault) × ((fold sooner (if b then Some y else Some x) os ≡ Some f) × (rank f ≤ rank x))
    by_test true e of_x of_y =
        let lower : rank y < rank x = (Decides-ltb (rank y) (rank x)).0 e in
        (of_y.0, (of_y.1.0, omega (arith, of_y.1.1, lower)))
    by_test false e of_x of_y = of_x

not_later : (f : ServeFault) → rank f ≤ 2 → MayHave false (Some f)
not_later Memory le = tt
not_later Spent le = tt
not_later Start le = refl
not_later Door le = absurd (omega (arith, le))
not_later Read le = absurd (omega (arith, le))
not_later (Line file line fault) le = absurd (omega (arith, le))
not_later Write le = absurd (omega (arith, le))

of_started : (f : ServeFault) → IsOfPart f → MayHave true (Some f)
of_started Memory h = tt
of_started Spent h = tt
of_started Start h = absurd h
of_started Door h = refl
of_started Read h = refl
of_started (Line file line fault) h = refl
of_started Write h = absurd h

pub may_have : {R : Type 0} (started : Bool) (actors : List (ActorDone R)) (scripts : List FileEnd) (workers : List WorkerEnd) (fault : Option ServeFault)
    → first_fault started actors scripts workers ≡ fault → MayHave started fault
may_have started actors scripts workers None e = all_started started (first_is_none rank (start_fault started) (actor_faults actors ++ (script_faults 1 scripts ++ worker_faults workers)) e)
may_have false actors scripts workers (Some f) e =
    let first = no_later Start (actor_faults actors ++ (script_faults 1 scripts ++ worker_faults workers)) in
    let same : first.0 ≡ f = same_Some first.0 f (sym first.1.0 ∙ e) in
    subst (λ x. MayHave false (Some x)) same (not_later first.0 first.1.1)
may_have true actors scripts workers (Some f) e =
    of_started f (⊎_elim (λ none. absurd (none-some f none))
    (λ any. ⊎_elim (of_actors f actors) (λ more. ⊎_elim (of_scripts f 1 scripts) (of_workers f workers) (any_of f (script_faults 1 scripts) (worker_faults workers) more))
    (any_of f (actor_faults actors) (script_faults 1 scripts ++ worker_faults workers) any))
    (first_is rank None (actor_faults actors ++ (script_faults 1 scripts ++ worker_faults workers)) f e))
