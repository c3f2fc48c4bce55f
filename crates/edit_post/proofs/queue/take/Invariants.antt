use Rattle.std.proofs.Common.{◌≡◌, ◌+◌, ◌^◌, ◌/◌, ◌<◌}
use Rattle.crossbeam_queue.specs.declared.seg_queue.Stage.TheVariants.{SawHead}
use Rattle.crossbeam_queue.specs.SegTies.{IsSegPassOf}
use Rattle.edit_post.proofs.queue.take.Given as goal

abbrev pub invariant-loop : goal.invariant-loop
invariant-loop g l = record {
  queue : IsSegPassOf l.queue l.pass;
  same : l.pass.me.view.client ≡ l.fn.pass.me.view.client;
  head : (l.pass.me.view.stage ≡ SawHead) × (l.pass.me.view.at ≡ l.head / 2) × (l.head < 2 ^ 63 + 2);
}
