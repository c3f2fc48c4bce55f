-- The fields of a line within the ranges of their types.
use Rattle.std.specs.Prelude.{◌≡◌, ℕ, ◌<◌, ◌^◌, true}
use Rattle.edit_fields.specs.Fits.{IdFits, EditFits}
use Rattle.edit_text.specs.declared.line.Line.{Line}
use Rattle.edit_text.specs.declared.line.Line.TheVariants.{Bot, Guild, Edit as EditLine, Look, Open, Frame, Lost, Closed, Tick}
use Rattle.edit_text.specs.Intents.{are_intents}

abbrev pub ConnectionFits : ℕ → Type 0
ConnectionFits conn = conn < 2 ^ 32

abbrev pub LineFits : Line → Type 0
LineFits (Bot token user name privileged v items bytes) = IdFits user × (are_intents privileged ≡ true)
LineFits (Guild id) = IdFits id
LineFits (EditLine guild edit) = IdFits guild × EditFits edit
LineFits (Look worker guild) = IdFits guild
LineFits (Open worker conn) = ConnectionFits conn
LineFits (Frame conn text) = ConnectionFits conn
LineFits (Lost conn) = ConnectionFits conn
LineFits (Closed conn code) = ConnectionFits conn × (code < 2 ^ 16)
LineFits (Tick worker now) = Unit {0}
