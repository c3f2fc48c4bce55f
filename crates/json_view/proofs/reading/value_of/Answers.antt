use Rattle.std.proofs.Common.{sym, ◌∙◌, arith}
use Rattle.json_view.proofs.Readings.{reading-IsUtf8, reading-None}
use Rattle.json_view.proofs.reading.value_of.Goals as goal

pub returns-in-Ok-clause-value : goal.returns-in-Ok-clause-value
returns-in-Ok-clause-value c = sym (reading-IsUtf8 _ c.in-Ok.ensures.ok.0 ∙ c.in-Ok.ensures.ok.1)

pub returns-else-is_memory-clause-value : goal.returns-else-is_memory-clause-value
returns-else-is_memory-clause-value c =
    sym (reading-None _ (c.in-Err.ensures.err (λ m. grind (arith, c.is_memory.ensures, m))))
