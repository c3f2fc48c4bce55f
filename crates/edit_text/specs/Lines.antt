-- What each line of a step file is.
use Rattle.std.specs.Prelude.{ℕ, ◌+◌, ◌^◌, ◌==◌, List, [], ◌∷◌, ◌++◌, length, Bool, true, false, not, ◌||◌, nat_lt, if◌then◌else◌, Option, Some, None, option_and_then, Result, Ok, Err, codes}
use Rattle.std.specs.List.{list_all, list_any}
use Rattle.std.specs.Option.{ok_or}
use Rattle.serde_json.specs.Data.{Data}
use Rattle.serde_json.specs.Find.{as_object}
use Rattle.json_view.specs.Fields.{and_then}
use Rattle.json_view.specs.Reading.{reading}
use Rattle.edit_fields.specs.declared.fault.LineFault.{LineFault}
use Rattle.edit_fields.specs.declared.fault.LineFault.TheVariants.{NotJson, NoSuchStep, WrongType, TooLong}
use Rattle.edit_text.specs.declared.line.FileKind.{FileKind}
use Rattle.edit_text.specs.declared.line.FileKind.TheVariants.{Run, Script}
use Rattle.edit_text.specs.declared.line.Line.{Line}
use Rattle.edit_text.specs.declared.line.Line.TheVariants.{Bot, Guild, Edit, Look, Open, Frame, Lost, Closed, Tick}
use Rattle.edit_text.specs.declared.step_name.StepName.{StepName}
use Rattle.edit_text.specs.declared.step_name.StepName.TheVariants as step
use Rattle.edit_text.specs.declared.reader_state.ReaderState.{ReaderState}
use Rattle.edit_fields.specs.Fields.{text_at, id_at, number_below}
use Rattle.edit_text.specs.Intents.{intents_at}
use Rattle.edit_text.specs.RingSizes.{ring_size_from}
use Rattle.edit_fields.specs.Names.{edit_named}
use Rattle.edit_text.specs.StepNames.{step_named, is_head}
use Rattle.edit_fields.specs.Edits.{edit_from}

-- ---- head lines

-- a token has at most 100 bytes
abbrev pub short_token : List ℕ → Result (List ℕ) LineFault
short_token token = if nat_lt 100 (length token) then Err TooLong else Ok token

abbrev pub bot_from : Data → Result Line LineFault
bot_from d =
    and_then (and_then (text_at (codes "token") d) short_token) (λ token.
    and_then (id_at (codes "user") d) (λ user.
    and_then (text_at (codes "name") d) (λ name.
    and_then (intents_at (codes "privileged") d) (λ privileged.
    and_then (ring_size_from d) (λ size.
    Ok (Bot token user name privileged size.v size.ring_items size.ring_bytes))))))

abbrev pub has_id : ℕ → List ℕ → Bool
has_id id ids = list_any (λ n. n == id) ids

-- a file has at most 32 guilds
abbrev pub has_room : List ℕ → ℕ → Bool
has_room guilds id = has_id id guilds || nat_lt (length guilds) 32

abbrev pub guild_from : List ℕ → Data → Result Line LineFault
guild_from guilds d =
    and_then (id_at (codes "id") d) (λ id.
    if has_room guilds id then Ok (Guild id) else Err TooLong)

-- ---- step lines

abbrev pub worker_at : Data → Result ℕ LineFault
worker_at d = number_below 4 (codes "worker") d

abbrev pub connection_at : Data → Result ℕ LineFault
connection_at d = number_below (2 ^ 32) (codes "conn") d

abbrev pub edit_line_from : Data → Result Line LineFault
edit_line_from d =
    and_then (id_at (codes "guild") d) (λ guild.
    and_then (text_at (codes "do") d) (λ text.
    and_then (ok_or (edit_named text) NoSuchStep) (λ name.
    and_then (edit_from name d) (λ edit.
    Ok (Edit guild edit)))))

abbrev pub look_from : Data → Result Line LineFault
look_from d =
    and_then (worker_at d) (λ worker.
    and_then (id_at (codes "guild") d) (λ guild.
    Ok (Look worker guild)))

abbrev pub open_from : Data → Result Line LineFault
open_from d =
    and_then (worker_at d) (λ worker.
    and_then (connection_at d) (λ conn.
    Ok (Open worker conn)))

abbrev pub frame_from : Data → Result Line LineFault
frame_from d =
    and_then (connection_at d) (λ conn.
    and_then (text_at (codes "text") d) (λ text.
    Ok (Frame conn text)))

abbrev pub lost_from : Data → Result Line LineFault
lost_from d =
    and_then (connection_at d) (λ conn.
    Ok (Lost conn))

abbrev pub closed_from : Data → Result Line LineFault
closed_from d =
    and_then (connection_at d) (λ conn.
    and_then (number_below (2 ^ 16) (codes "code") d) (λ code.
    Ok (Closed conn code)))

abbrev pub tick_from : Data → Result Line LineFault
tick_from d =
    and_then (worker_at d) (λ worker.
    and_then (number_below (2 ^ 53) (codes "now") d) (λ now.
    Ok (Tick worker now)))

abbrev pub fields_from : List ℕ → StepName → Data → Result Line LineFault
fields_from guilds step.Bot d = bot_from d
fields_from guilds step.Guild d = guild_from guilds d
fields_from guilds step.Edit d = edit_line_from d
fields_from guilds step.Look d = look_from d
fields_from guilds step.Open d = open_from d
fields_from guilds step.Frame d = frame_from d
fields_from guilds step.Lost d = lost_from d
fields_from guilds step.Closed d = closed_from d
fields_from guilds step.Tick d = tick_from d

-- ---- which step may stand where

abbrev pub is_run : FileKind → Bool
is_run Run = true
is_run Script = false

abbrev pub is_edit : StepName → Bool
is_edit step.Bot = false
is_edit step.Guild = false
is_edit step.Edit = true
is_edit step.Look = false
is_edit step.Open = false
is_edit step.Frame = false
is_edit step.Lost = false
is_edit step.Closed = false
is_edit step.Tick = false

-- head lines come first, and a script has no other step than edits
abbrev pub is_allowed : ReaderState → StepName → Bool
is_allowed reader name =
    if is_head name then not reader.stepped else (is_run reader.kind || is_edit name)

abbrev pub step_of : ReaderState → List ℕ → Option StepName
step_of reader text =
    option_and_then (λ name. if is_allowed reader name then Some name else None) (step_named text)

abbrev pub line_from : ReaderState → Data → Result Line LineFault
line_from reader d =
    and_then (text_at (codes "step") d) (λ text.
    and_then (ok_or (step_of reader text) NoSuchStep) (λ name.
    fields_from reader.guilds name d))

abbrev pub object_line_from : ReaderState → Data → Result Line LineFault
object_line_from reader d = and_then (ok_or (as_object d) WrongType) (λ members. line_from reader d)

-- ---- the lines of a file

-- spaces, tabs and carriage returns
abbrev pub is_blank_byte : ℕ → Bool
is_blank_byte b = b == 32 || b == 9 || b == 13

abbrev pub is_blank : List ℕ → Bool
is_blank bytes = list_all is_blank_byte bytes

-- a line has at most 65,536 bytes, and a file 1,000,000 lines
abbrev pub is_too_long : ReaderState → List ℕ → Bool
is_too_long reader bytes = nat_lt 65536 (length bytes) || not (nat_lt reader.lines 1000000)

abbrev pub some_line : Result Line LineFault → Result (Option Line) LineFault
some_line r = and_then r (λ line. Ok (Some line))

-- the line that the bytes are, or none if they are blank
unfoldable pub line_of : ReaderState → List ℕ → Result (Option Line) LineFault
line_of reader bytes =
    if is_too_long reader bytes then Err TooLong
    else (if is_blank bytes then Ok None
    else some_line (and_then (ok_or (reading bytes) NotJson) (object_line_from reader)))

-- ---- what a reader keeps

abbrev pub with_guild : ℕ → List ℕ → List ℕ
with_guild id guilds = if has_id id guilds then guilds else guilds ++ id ∷ []

abbrev pub noted : Line → ReaderState → ReaderState
noted (Bot token user name privileged v items bytes) r = r
noted (Guild id) r = record r { guilds = with_guild id r.guilds }
noted (Edit guild edit) r = record r { stepped = true }
noted (Look worker guild) r = record r { stepped = true }
noted (Open worker conn) r = record r { stepped = true }
noted (Frame conn text) r = record r { stepped = true }
noted (Lost conn) r = record r { stepped = true }
noted (Closed conn code) r = record r { stepped = true }
noted (Tick worker now) r = record r { stepped = true }

-- a line is counted, whatever it is; beyond the most lines that a file has, one is enough
abbrev pub counted : ReaderState → ReaderState
counted r = record r { lines = if nat_lt 1000000 r.lines then r.lines else r.lines + 1 }

-- a refused line is counted, and changes nothing else
abbrev pub after_line : Result (Option Line) LineFault → ReaderState → ReaderState
after_line (Err fault) r = counted r
after_line (Ok None) r = counted r
after_line (Ok (Some line)) r = counted (noted line r)

abbrev pub reader_after : ReaderState → List ℕ → ReaderState
reader_after reader bytes = after_line (line_of reader bytes) reader
