-- What a load answers whose parts have ended, with a fault or without one.
use Rattle.std.proofs.Common.{◌≡◌, ℕ, Option, Some, None, Result, Ok, Err, refl, sym, ap, ◌∙◌, subst}
use Rattle.std.proofs.lemmas.Bool.{true≢false}
use Rattle.std.specs.Result.{is_ok}
use Rattle.load_run.specs.declared.fault.LoadFault.{LoadFault}
use Rattle.load_run.specs.Causes.{HasLoadCause, LoadCause}

-- the fault of the parts has its cause, or else what comes of the summary
pub answered : (seed team0 team1 sink0 sink1 : ℕ) (fault : Option LoadFault) (r : Result (Unit {0}) LoadFault)
    → ((f : LoadFault) → fault ≡ Some f → LoadCause seed team0 team1 sink0 sink0 f)
    → (fault ≡ None → team1 ≡ team0)
    → (fault ≡ None → (team : ℕ) → HasLoadCause seed team team sink0 sink1 r)
    → ((f : LoadFault) → fault ≡ Some f → (r ≡ Err f) × (sink1 ≡ sink0))
    → HasLoadCause seed team0 team1 sink0 sink1 r
answered seed team0 team1 sink0 sink1 None r cause team summary kept =
    subst (λ (t : ℕ). HasLoadCause seed team0 t sink0 sink1 r) (sym (team refl)) (summary refl team0)
answered seed team0 team1 sink0 sink1 (Some f) r cause team summary kept =
    let is = kept f refl in
    subst (HasLoadCause seed team0 team1 sink0 sink1) (sym is.0) (subst (λ (s : ℕ). LoadCause seed team0 team1 sink0 s f) (sym is.1) (cause f refl))

-- what holds where no part has a fault holds of a load that came to its end
pub all_asked : (P : Type 0) (fault : Option LoadFault) (r : Result (Unit {0}) LoadFault) → (fault ≡ None → P) → ((f : LoadFault) → fault ≡ Some f → r ≡ Err f) → r ≡ Ok tt → P
all_asked P None r none some ok = none refl
all_asked P (Some f) r none some ok = absurd (true≢false (ap is_ok (sym ok ∙ some f refl)))
