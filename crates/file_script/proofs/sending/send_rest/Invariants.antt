use Rattle.std.proofs.Common.{◌≡◌, ◌-◌, ◌++◌, ℕ, List}
use Rattle.std.specs.Io.KnownBytes.{Consumes}
use Rattle.edit_post.specs.Post.{Sender}
use Rattle.edit_text.specs.declared.line.Line.{Line}
use Rattle.guild_posts.specs.Posts.{ArePasses, AreSent}
use Rattle.script_run.specs.Scripts.{edits_in}
use Rattle.file_script.specs.Reads.{HasGiven}
use Rattle.file_script.proofs.sending.send_rest.Given as goal

-- the edits of the lines so far are sent
abbrev pub invariant-loop-line : goal.invariant-loop-line
invariant-loop-line g l = record {
  passes : ArePasses l.posts l.passes.items;
  sent : (bytes : List ℕ) (given : List Line) (before : List Sender) → HasGiven (g.S.Source.left l.fn.source) l.fn.lines bytes given → AreSent l.index.keys (edits_in given) before l.fn.passes.items
      → (more : List ℕ) × (now : List Line) × Consumes (g.S.Source.left l.fn.source) (g.S.Source.left l.source) more × HasGiven (g.S.Source.left l.source) l.lines (bytes ++ more) now × AreSent l.index.keys (edits_in now) before l.passes.items;
  faults : g.S.Source.faults l.source ≡ g.S.Source.faults l.fn.source;
}

abbrev pub decreases-loop-line : goal.decreases-loop-line
decreases-loop-line g l = 1000001 - l.lines.reader.lines
