use Rattle.std.proofs.Common.{rules, ap, sym, ◌∙◌, length}
use Rattle.edit_post.specs.declared.queue_view.QueueView.{QueueView}
use Rattle.edit_post.specs.Requests.{requests_of}
use Rattle.edit_post.proofs.MarkMoves.{zeros_at}
use Rattle.edit_post.proofs.take_pass.TakePass.new.Goals as goal

pub invariant_of-result : goal.invariant_of-result
invariant_of-result c = record {
  empty = search rules;
  takes = search rules;
  made = search rules;
  counts = λ p _. zeros_at 16 p ∙ sym (ap (λ (v : QueueView). length (requests_of p v.taken)) c.requires.2);
  low = search rules;
  marks = search rules;
  found = search rules;
  sixteen = search rules;
}
