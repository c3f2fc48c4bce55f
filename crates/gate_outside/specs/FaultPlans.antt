-- Which calls of an object in memory are to fail.
use Rattle.std.specs.Prelude.{ℕ, List, Bool, if◌then◌else◌, ◌==◌}
use Rattle.std.specs.List.{list_any}
use Rattle.gate_outside.specs.Causes.{one_more}

-- the numbers of the calls that are to fail, from 1; how many calls were made; how many faults there were
pub record Plan : Type 0 where
  pub failing : List ℕ
  pub calls : ℕ
  pub faults : ℕ

-- the plan before the first call
abbrev pub fresh : List ℕ → Plan
fresh numbers = record { failing = numbers; calls = 0; faults = 0 }

-- whether the next call is to fail
abbrev pub fails : Plan → Bool
fails p = list_any (λ number. number == one_more p.calls) p.failing

-- after a call that did not fail
abbrev pub after_call : Plan → Plan
after_call p = record p { calls = one_more p.calls }

-- after a fault that no call made
abbrev pub after_fault : Plan → Plan
after_fault p = record p { faults = one_more p.faults }

-- after a call that failed
abbrev pub after_failed_call : Plan → Plan
after_failed_call p = after_fault (after_call p)

-- after the next call, which fails exactly if it is to fail
abbrev pub after_next : Plan → Plan
after_next p = if fails p then after_failed_call p else after_call p
