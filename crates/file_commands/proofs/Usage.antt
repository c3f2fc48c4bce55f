-- The usage line.
use Rattle.std.proofs.Common.{ℕ, List, [], ◌++◌, Result, Ok, Err, OnOk, OnErr, inl, inr, refl, sym, ◌∙◌, append_assoc, append-nil}
use Rattle.std.specs.declared.option.Option.{Option as Known}
use Rattle.std.specs.declared.option.Option.TheVariants.{Some, None}
use Rattle.std.specs.Io.KnownBytes.{Appends}
use Rattle.gate_outside.specs.Causes.{FaultHasCause}
use Rattle.gate_outside.specs.declared.faults.Fault.{Fault}
use Rattle.gate_outside.specs.declared.faults.Fault.TheVariants as outside
use Rattle.gate_outside.specs.Streams.{AppendsFront, CarriesFront}
use Rattle.file_commands.specs.Usage.{usage, TellsUsage, usage_status}

-- what went out of a front is a front
pub front_out : (got0 got1 : Known (List ℕ)) (waits text : List ℕ) → CarriesFront got0 got1 waits text → AppendsFront got0 got1 text
front_out got0 got1 waits text h = (h.sent, waits ++ h.back, sym (append_assoc h.sent waits h.back) ∙ h.is, h.wrote)

-- how the usage line was written
pub tells_usage : (r : Result (Unit {0}) Fault) (got0 got1 : Known (List ℕ)) (before : List ℕ) (f0 f1 : ℕ) → OnOk r (Appends got0 got1 (before ++ usage)) → OnErr r (AppendsFront got0 got1 (before ++ usage))
    → FaultHasCause f0 f1 r → TellsUsage got0 got1 before f0 f1 (usage_status r)
tells_usage (Ok x) got0 got1 before f0 f1 ok err cause = inl (refl, ok, cause.ok)
tells_usage (Err outside.Failed) got0 got1 before f0 f1 ok err cause = inr (inl (refl, err, cause.failed refl))
tells_usage (Err outside.Memory) got0 got1 before f0 f1 ok err cause = inr (inr (refl, err))

appends_none : (got : Known (List ℕ)) → Appends got got []
appends_none None = tt
appends_none (Some xs) = sym (append-nil xs)

-- out of memory before there was a usage line
pub no_usage : (got : Known (List ℕ)) (before : List ℕ) (faults : ℕ) → TellsUsage got got before faults faults 6
no_usage got before faults = inr (inr (refl, ([], before ++ usage, refl, appends_none got)))
