use Rattle.std.proofs.Common.{◌≡◌, [], ◌∷◌, ◌++◌, true, length}
use Rattle.std.specs.Prelude.{flat_map}
use Rattle.std.specs.List.{list_all}
use Rattle.std.specs.Vec.Iter.{into_iter_items, into_iter_len}
use Rattle.session_core.specs.declared.reply.Reply.{Reply}
use Rattle.worker_core.proofs.worker.Worker.reply_each.Given as goal
use Rattle.worker_core.specs.Outputs.{all_written}
use Rattle.worker_core.specs.Replies.{Replies, is_plain, plain}

abbrev pub invariant-loop-reply : goal.invariant-loop-reply
invariant-loop-reply l = record {
  all : l.yielded ++ into_iter_items l.reply-iterator ≡ into_iter_items l.initial.reply-iterator;
  count : into_iter_len l.reply-iterator ≡ length (into_iter_items l.reply-iterator);
  plain : list_all is_plain l.yielded ≡ true → (l.self ≡ l.fn.self) × (l.out.items ≡ all_written (flat_map plain l.yielded));
  one : (r : Reply) → l.yielded ≡ r ∷ [] → Replies r l.fn.self l.self [] l.out.items;
}
