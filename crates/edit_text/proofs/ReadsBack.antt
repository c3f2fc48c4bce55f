-- What it means that the line of an edit reads back, nests little and has no float.
use Rattle.std.proofs.Common.{◌≡◌, ℕ, ◌≤◌, ◌^◌, true, false, Ok, codes, arith}
use Rattle.std.specs.Prelude.{nat_lt}
use Rattle.std.proofs.lemmas.Bool.Decides.{nat_tests}
use Rattle.serde_json.specs.Data.{Data, depth}
use Rattle.serde_json.specs.Written.{has_float}
use Rattle.guild_model.specs.declared.moment.TheConstants.{END_OF_TIME}
use Rattle.edit_apply.specs.declared.Edit.{Edit}
use Rattle.edit_text.specs.declared.line.Line.TheVariants.{Edit as EditLine}
use Rattle.edit_fields.specs.Fields.{text_at, id_at}
use Rattle.edit_fields.specs.Fits.{IdFits, MaskFits, MomentFits}
use Rattle.edit_fields.specs.Names.{name_text}
use Rattle.edit_fields.specs.Edits.{edit_from, edit_name}
use Rattle.edit_text.specs.Written.{line_data}

-- the line of an edit says so, and names its guild and the edit
abbrev pub ReadsAs : ℕ → Edit → Data → Type 0
ReadsAs guild e d = (text_at (codes "step") d ≡ Ok (codes "edit")) × (id_at (codes "guild") d ≡ Ok guild)
    × (text_at (codes "do") d ≡ Ok (name_text (edit_name e))) × (edit_from (edit_name e) d ≡ Ok e)

abbrev pub Back : ℕ → Edit → Type 0
Back guild e = ReadsAs guild e (line_data (EditLine guild e))

pub mask_below : (mask : ℕ) → MaskFits mask → nat_lt mask (2 ^ 53) ≡ true
mask_below mask h = grind (arith, nat_tests, h)

pub mask_as_id : (mask : ℕ) → MaskFits mask → IdFits mask
mask_as_id mask h = omega (arith, h)

pub moment_below : (at : ℕ) → MomentFits at → nat_lt at END_OF_TIME ≡ true
moment_below at h = grind (arith, nat_tests, h)

abbrev pub Plain : Data → Type 0
Plain d = (depth d ≤ 2) × (has_float d ≡ false)

abbrev pub PlainEdit : ℕ → Edit → Type 0
PlainEdit guild e = Plain (line_data (EditLine guild e))
