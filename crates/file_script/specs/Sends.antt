-- What a script's file sends.
use Rattle.std.specs.Prelude.{◌≡◌, ℕ, List, ◌++◌, true, false, flat_map, Option, Some, None, Result, Ok, Err}
use Rattle.std.specs.List.{list_any}
use Rattle.std.specs.declared.option.Option.{Option as Known}
use Rattle.std.specs.declared.option.Option.TheVariants as known
use Rattle.std.specs.Io.KnownBytes.{IsAtEnd}
use Rattle.file_lines.specs.Lines.{whole_lines, lines_of}
use Rattle.edit_apply.specs.declared.Edit.{Edit}
use Rattle.edit_post.specs.Post.{Sender}
use Rattle.guild_posts.specs.Posts.{AreSent, has_sent_all}
use Rattle.edit_text.specs.declared.line.Line.{Line}
use Rattle.script_run.specs.Scripts.{edits_in}
use Rattle.session_core.specs.declared.bot.Bot.{Bot as ABot}
use Rattle.file_script.specs.declared.fault.ScriptFault.{ScriptFault}
use Rattle.file_script.specs.declared.fault.ScriptFault.TheVariants as script
use Rattle.file_script.specs.declared.script.FileScript.{FileScript}
use Rattle.file_script.specs.declared.head.Declared.{Declared}
use Rattle.file_script.specs.declared.script_lines.ScriptLines.{ScriptLines}
use Rattle.file_script.specs.Accepted.{accepted, refused}
use Rattle.file_script.specs.Heads.{is_head_line, AreHeads, bot_in, guild_in, Declares}
use Rattle.file_script.specs.Reads.{Gives, ReadCause}

-- ---- the head

-- these are head lines, and their bots and guilds were added
pub record AddsHeads (heads : List Line) (old new : Declared) : Type 0 where
  pub are : AreHeads heads
  pub bots : new.bots.items ≡ old.bots.items ++ flat_map bot_in heads
  pub guilds : new.guilds.items ≡ old.guilds.items ++ flat_map guild_in heads

-- the line that ends a head, if one does, is no head line
abbrev pub EndsHeads : Option Line → Type 0
EndsHeads None = Unit {0}
EndsHeads (Some line) = is_head_line line ≡ false

-- Of a source that has these bytes left, those were read: the head of the file, with what ended it.
abbrev pub HeadIsRead : Known (List ℕ) → FileScript → List ℕ → Type 0
HeadIsRead left s bytes = (heads : List Line) × AreHeads heads × Gives left s.lines bytes heads s.first

-- the bots and guilds are those that the file declares, or if the source failed those of the whole lines that were read
abbrev pub DeclaresFirst : Known (List ℕ) → List ℕ → Result (Option Line) ScriptFault → List ABot → List ℕ → Type 0
DeclaresFirst left bytes (Ok line) bots guilds = (rest : List ℕ) → left ≡ known.Some rest → Declares (accepted (lines_of (bytes ++ rest))) bots guilds
DeclaresFirst left bytes (Err script.Read) bots guilds = Declares (accepted (whole_lines bytes)) bots guilds
DeclaresFirst left bytes (Err (script.Line line fault)) bots guilds = (rest : List ℕ) → left ≡ known.Some rest → Declares (accepted (lines_of (bytes ++ rest))) bots guilds
DeclaresFirst left bytes (Err script.Spent) bots guilds = ⊥
DeclaresFirst left bytes (Err script.Memory) bots guilds = ⊥

-- within the reading of a head, a head line is added, and any other line handed back
abbrev pub DeclaresLine : Line → (old new : Declared) → Result (Option Line) ScriptFault → Type 0
DeclaresLine line old new (Ok None) = (is_head_line line ≡ true) × (new.bots.items ≡ old.bots.items ++ bot_in line) × (new.guilds.items ≡ old.guilds.items ++ guild_in line)
DeclaresLine line old new (Ok (Some step)) = (is_head_line line ≡ false) × (step ≡ line) × (new.bots.items ≡ old.bots.items) × (new.guilds.items ≡ old.guilds.items)
DeclaresLine line old new (Err fault) = fault ≡ script.Memory

-- the head lines among these bytes were read and added, unless memory ran out
abbrev pub ReadsHeads : Known (List ℕ) → ScriptLines → List ℕ → (old new : Declared) → Result (Option Line) ScriptFault → Type 0
ReadsHeads left k bytes old new (Ok first) = (heads : List Line) × AddsHeads heads old new × EndsHeads first × Gives left k bytes heads (Ok first)
ReadsHeads left k bytes old new (Err script.Read) = (heads : List Line) × AddsHeads heads old new × Gives left k bytes heads (Err script.Read)
ReadsHeads left k bytes old new (Err (script.Line line fault)) = (heads : List Line) × AddsHeads heads old new × Gives left k bytes heads (Err (script.Line line fault))
ReadsHeads left k bytes old new (Err script.Spent) = ⊥
ReadsHeads left k bytes old new (Err script.Memory) = Unit {0}

-- ---- the edits

-- the edits of the lines before the first that is refused, in order
abbrev pub edits_of : List (List ℕ) → List (ℕ × Edit)
edits_of lines = edits_in (accepted lines)

-- the first of these edits were sent, in order
abbrev pub SendsFront : List ℕ → List (ℕ × Edit) → List Sender → List Sender → Type 0
SendsFront guilds edits old new = (sent : List (ℕ × Edit)) × (more : List (ℕ × Edit)) × (edits ≡ sent ++ more) × AreSent guilds sent old new

-- What a script has sent of its file, of which these bytes were read and those are left: all edits with `Ok`; those of
-- the whole lines that were read, if the source failed; those before the first line that is refused; or a front.
abbrev pub SendsFile : List ℕ → Known (List ℕ) → List ℕ → List Sender → List Sender → Result (Unit {0}) ScriptFault → Type 0
SendsFile guilds left bytes old new (Ok x) = IsAtEnd left × (refused (lines_of bytes) ≡ None) × AreSent guilds (edits_of (lines_of bytes)) old new
SendsFile guilds left bytes old new (Err script.Read) = (refused (whole_lines bytes) ≡ None) × AreSent guilds (edits_of (whole_lines bytes)) old new
SendsFile guilds left bytes old new (Err (script.Line line fault)) = (rest : List ℕ) → left ≡ known.Some rest
    → (refused (lines_of (bytes ++ rest)) ≡ Some (line, fault)) × AreSent guilds (edits_of (lines_of (bytes ++ rest))) old new
SendsFile guilds left bytes old new (Err script.Spent) = (list_any has_sent_all new ≡ true) × ((rest : List ℕ) → left ≡ known.Some rest → SendsFront guilds (edits_of (lines_of (bytes ++ rest))) old new)
SendsFile guilds left bytes old new (Err script.Memory) = (rest : List ℕ) → left ≡ known.Some rest → SendsFront guilds (edits_of (lines_of (bytes ++ rest))) old new

-- a failure that ended the head is answered, and no other read is made; else a source's count of faults rises exactly
-- if a read fails
abbrev pub SendCause : Result (Option Line) ScriptFault → (before now : ℕ) → Result (Unit {0}) ScriptFault → Type 0
SendCause (Ok line) before now result = ReadCause before now result
SendCause (Err fault) before now result = (result ≡ Err fault) × (now ≡ before)
