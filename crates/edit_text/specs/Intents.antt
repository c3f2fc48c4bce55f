-- The set of intents of a bot.
use Rattle.std.specs.Prelude.{ℕ, List, Bool, Result, ◌==◌}
use Rattle.std.specs.Int.RustNames.{bit_and}
use Rattle.serde_json.specs.Data.{Data}
use Rattle.json_view.specs.Fields.{and_then, number_field}
use Rattle.edit_fields.specs.declared.fault.LineFault.{LineFault}
use Rattle.edit_fields.specs.Fault.{faulted}
use Rattle.edit_fields.specs.Fields.{within}

-- no bit but those of intents, which together are 53608447 (Gateway, List of Intents)
unfoldable pub are_intents : ℕ → Bool
are_intents n = bit_and n 53608447 == n

abbrev pub intents_at : List ℕ → Data → Result ℕ LineFault
intents_at name d = and_then (faulted (number_field name d)) (λ n. within (are_intents n) n)
