-- The id that a value is, by whether it is a text.
use Rattle.std.proofs.Common.{◌≡◌, ℕ, List, Some, None, refl, ap}
use Rattle.std.specs.Option.{ok_or}
use Rattle.serde_json.specs.Data.{Data, null, boolean, number, string, array, object}
use Rattle.serde_json.specs.Find.{as_str}
use Rattle.snowflake_id.specs.Text.{id_of_text}
use Rattle.json_view.specs.declared.fields.ViewFault.TheVariants.{WrongType}
use Rattle.json_view.specs.Fields.{id_or_fault, id_value, whole}

pub of_text : (d : Data) (s : List ℕ) → as_str d ≡ Some s → id_value d ≡ id_or_fault (id_of_text s)
of_text null s e = absurd (cc)
of_text (boolean b) s e = absurd (cc)
of_text (number n) s e = absurd (cc)
of_text (string t) s e = let same : t ≡ s = cc in ap (λ (x : List ℕ). id_or_fault (id_of_text x)) same
of_text (array ds) s e = absurd (cc)
of_text (object ms) s e = absurd (cc)

pub of_other : (d : Data) → as_str d ≡ None → id_value d ≡ ok_or (whole d) WrongType
of_other null e = refl
of_other (boolean b) e = refl
of_other (number n) e = refl
of_other (string t) e = absurd (cc)
of_other (array ds) e = refl
of_other (object ms) e = refl
