-- What went out of a text.
use Rattle.std.proofs.Common.{◌≡◌, ℕ, List, Result, Err, refl, sym, subst}
use Rattle.std.specs.Prelude.{IsErrOf}
use Rattle.std.specs.declared.option.Option.{Option as Known}
use Rattle.gate_outside.specs.Causes.{FaultHasCause}
use Rattle.gate_outside.specs.declared.faults.Fault.{Fault}
use Rattle.gate_outside.specs.declared.faults.Fault.TheVariants.{Failed, Memory}
use Rattle.load_run.specs.Causes.{Loads, WritesFront, HasLoadCause}
use Rattle.load_run.specs.Faults.{by_sink}

-- a fault of the sink, as a fault of a load
pub loads_front : (seed : ℕ) (got0 got1 : Known (List ℕ)) (waits : List ℕ) (f : Fault) → WritesFront seed got0 got1 waits → Loads seed got0 got1 waits (Err (by_sink f))
loads_front seed got0 got1 waits Failed h = h
loads_front seed got0 got1 waits Memory h = h

pub sink_cause : {T : Type 0} (seed team sink0 sink1 : ℕ) (f : Fault) (r : Result T Fault) → r ≡ Err f → FaultHasCause sink0 sink1 r → HasLoadCause seed team team sink0 sink1 (Err (by_sink f))
sink_cause seed team sink0 sink1 Failed r is h = h.failed (subst (λ q. IsErrOf q Failed) (sym is) refl)
sink_cause seed team sink0 sink1 Memory r is h = tt
