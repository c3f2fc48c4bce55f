-- What a script's part of a run does.
use Rattle.std.specs.Prelude.{◌≡◌, ℕ, List, map, Result}
use Rattle.edit_post.specs.Post.{Sender, after_end}
use Rattle.edit_post.specs.declared.send_refused.SendRefused.{SendRefused}
use Rattle.edit_text.specs.declared.line.Line.{Line}
use Rattle.script_run.specs.Scripts.{edits_in, SendsScript}
use Rattle.gate_parts.specs.declared.ending.Ending.{Ending}
use Rattle.gate_parts.specs.declared.ending.Ending.TheVariants.{Ran, Stopped}
use Rattle.gate_parts.specs.declared.script_part.ScriptPart.{ScriptPart}
use Rattle.gate_parts.specs.declared.script_part.ScriptDone.{ScriptDone}
use Rattle.gate_parts.specs.Endings.{has_failed, has_stopped}
use Rattle.gate_parts.specs.Seats.{SeatEnds}

-- The passes have sent the edits of the lines, all of them or the first, if the script began, and nothing if it stopped. Then each has ended.
abbrev pub Sends : List ℕ → List Line → List Sender → Ending (Result (Unit {0}) SendRefused) → List Sender → Type 0
Sends guilds lines old (Ran result) new = (sent : List Sender) × SendsScript guilds (edits_in lines) old sent result × (new ≡ map after_end sent)
Sends guilds lines old Stopped new = new ≡ map after_end old

module _ {R : Type 0} where
  -- what a script's part gives
  pub record ScriptGives (part : ScriptPart R) (done : ScriptDone) : Type 0 where
    pub seat : SeatEnds (has_failed done.ending) (has_stopped done.ending) part.seat done.seat
    pub sends : Sends part.index.keys part.lines.items part.passes.items done.ending done.passes.items
