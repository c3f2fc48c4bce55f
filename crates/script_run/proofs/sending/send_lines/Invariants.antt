-- the edits of the lines so far are sent
use Rattle.std.proofs.Common.{◌≡◌, ◌++◌, length}
use Rattle.std.specs.Vec.Iter.{into_iter_items, into_iter_len}
use Rattle.guild_posts.specs.Posts.{ArePasses, AreSent}
use Rattle.script_run.specs.Scripts.{edits_in}
use Rattle.script_run.proofs.sending.send_lines.Given as goal

abbrev pub invariant-loop-line : goal.invariant-loop-line
invariant-loop-line g l = record {
  all : l.yielded ++ into_iter_items l.line-iterator ≡ into_iter_items l.initial.line-iterator;
  count : into_iter_len l.line-iterator ≡ length (into_iter_items l.line-iterator);
  passes : ArePasses l.posts l.passes.items;
  sent : AreSent l.index.keys (edits_in l.yielded) l.fn.passes.items l.passes.items;
}
