-- What each line is written as, and where it may stand.
use Rattle.std.specs.Prelude.{ℕ, ◌^◌, List, [], ◌∷◌, length, Bool, true, not, ◌&&◌, nat_lt, codes}
use Rattle.serde_json.specs.Data.{Data, object, string, no_members}
use Rattle.edit_text.specs.declared.line.Line.{Line}
use Rattle.edit_text.specs.declared.line.Line.TheVariants.{Bot, Guild, Edit as EditLine, Look, Open, Frame, Lost, Closed, Tick}
use Rattle.edit_text.specs.declared.step_name.StepName.{StepName}
use Rattle.edit_text.specs.declared.step_name.StepName.TheVariants as step
use Rattle.edit_text.specs.declared.reader_state.ReaderState.{ReaderState}
use Rattle.edit_fields.specs.Within.{edit_within}
use Rattle.edit_fields.specs.Members.{count, id_data, put_all}
use Rattle.edit_fields.specs.Names.{name_text}
use Rattle.edit_text.specs.StepNames.{step_text}
use Rattle.edit_text.specs.RingSizes.{ring_size_fields, is_size}
use Rattle.edit_fields.specs.Edits.{edit_name, edit_fields}
use Rattle.edit_text.specs.Lines.{has_room, is_allowed}

abbrev pub step_name : Line → StepName
step_name (Bot token user name privileged v items bytes) = step.Bot
step_name (Guild id) = step.Guild
step_name (EditLine guild edit) = step.Edit
step_name (Look worker guild) = step.Look
step_name (Open worker conn) = step.Open
step_name (Frame conn text) = step.Frame
step_name (Lost conn) = step.Lost
step_name (Closed conn code) = step.Closed
step_name (Tick worker now) = step.Tick

-- the fields after `step`, in the order in which they are read
abbrev pub line_fields : Line → List (List ℕ × Data)
line_fields (Bot token user name privileged v items bytes) =
    (codes "token", string token) ∷ (codes "user", id_data user) ∷ (codes "name", string name)
    ∷ (codes "privileged", count privileged)
    ∷ ring_size_fields (record { v = v; ring_items = items; ring_bytes = bytes })
line_fields (Guild id) = (codes "id", id_data id) ∷ []
line_fields (EditLine guild edit) =
    (codes "guild", id_data guild) ∷ (codes "do", string (name_text (edit_name edit)))
    ∷ edit_fields edit
line_fields (Look worker guild) = (codes "worker", count worker) ∷ (codes "guild", id_data guild) ∷ []
line_fields (Open worker conn) = (codes "worker", count worker) ∷ (codes "conn", count conn) ∷ []
line_fields (Frame conn text) = (codes "conn", count conn) ∷ (codes "text", string text) ∷ []
line_fields (Lost conn) = (codes "conn", count conn) ∷ []
line_fields (Closed conn code) = (codes "conn", count conn) ∷ (codes "code", count code) ∷ []
line_fields (Tick worker now) = (codes "worker", count worker) ∷ (codes "now", count now) ∷ []

-- the object of a line; its keys are in byte order, whatever the order of its fields
abbrev pub line_data : Line → Data
line_data line =
    object (put_all no_members ((codes "step", string (step_text (step_name line))) ∷ line_fields line))

-- ---- which lines a reader allows

-- within the limits of its fields, after these guilds
abbrev pub line_within : List ℕ → Line → Bool
line_within guilds (Bot token user name privileged v items bytes) =
    not (nat_lt 100 (length token))
    && is_size (record { v = v; ring_items = items; ring_bytes = bytes })
line_within guilds (Guild id) = has_room guilds id
line_within guilds (EditLine guild edit) = edit_within edit
line_within guilds (Look worker guild) = nat_lt worker 4
line_within guilds (Open worker conn) = nat_lt worker 4
line_within guilds (Frame conn text) = true
line_within guilds (Lost conn) = true
line_within guilds (Closed conn code) = true
line_within guilds (Tick worker now) = nat_lt worker 4 && nat_lt now (2 ^ 53)

-- whether the line may come next
abbrev pub allows : ReaderState → Line → Bool
allows reader line =
    nat_lt reader.lines 1000000 && (is_allowed reader (step_name line) && line_within reader.guilds line)
