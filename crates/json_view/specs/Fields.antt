-- The fields of an object, by their kinds.
use Rattle.std.specs.Prelude.{ℕ, List, Bool, Option, Some, None, Result, Ok, Err, option_and_then}
use Rattle.std.specs.Option.{ok_or}
use Rattle.serde_json.specs.Data.{Data, null, boolean, number, string, array, object}
use Rattle.serde_json.specs.Find.{get, as_str, as_bool, as_number, as_u64}
use Rattle.snowflake_id.specs.declared.BadId as bad
use Rattle.snowflake_id.specs.Text.{id_of_text}
use Rattle.json_view.specs.declared.fields.ViewFault.{ViewFault}
use Rattle.json_view.specs.declared.fields.ViewFault.TheVariants.{Missing, WrongType, BadId}

-- the first of two steps that fails decides
abbrev pub and_then : {A B E : Type 0} → Result A E → (A → Result B E) → Result B E
and_then (Ok a) f = f a
and_then (Err e) f = Err e

-- the value of a key
abbrev pub field : List ℕ → Data → Result Data ViewFault
field name d = ok_or (get name d) Missing

abbrev pub unless_null : Data → Option Data
unless_null null = None
unless_null (boolean b) = Some (boolean b)
unless_null (number n) = Some (number n)
unless_null (string s) = Some (string s)
unless_null (array ds) = Some (array ds)
unless_null (object ms) = Some (object ms)

-- the value of a key, where it is there and not null
abbrev pub given : List ℕ → Data → Option Data
given name d = option_and_then unless_null (get name d)

-- a number from 0 to 2^64 - 1, written without a fraction or an exponent
abbrev pub whole : Data → Option ℕ
whole d = option_and_then as_u64 (as_number d)

abbrev pub number_field : List ℕ → Data → Result ℕ ViewFault
number_field name d = and_then (field name d) (λ v. ok_or (whole v) WrongType)

abbrev pub flag_field : List ℕ → Data → Result Bool ViewFault
flag_field name d = and_then (field name d) (λ v. ok_or (as_bool v) WrongType)

abbrev pub text_field : List ℕ → Data → Result (List ℕ) ViewFault
text_field name d = and_then (field name d) (λ v. ok_or (as_str v) WrongType)

abbrev pub id_or_fault : Result ℕ bad.BadId → Result ℕ ViewFault
id_or_fault (Ok id) = Ok id
id_or_fault (Err fault) = Err (BadId fault)

-- an id: a text of digits, or a whole number (API Reference, Snowflakes)
abbrev pub id_value : Data → Result ℕ ViewFault
id_value null = Err WrongType
id_value (boolean b) = Err WrongType
id_value (number n) = ok_or (as_u64 n) WrongType
id_value (string s) = id_or_fault (id_of_text s)
id_value (array ds) = Err WrongType
id_value (object ms) = Err WrongType

abbrev pub id_field : List ℕ → Data → Result ℕ ViewFault
id_field name d = and_then (field name d) id_value
