use Rattle.std.proofs.Common.{◌≡◌, ◌+◌, length, arith, ap, ◌∙◌}
use Rattle.run_stage.proofs.Numbered.{added, next_at}
use Rattle.serve_stage.specs.Drafts.{IsWorkerDraft}
use Rattle.serve_stage.proofs.workers.add_workers.Goals as goal

pub loop-number-preserved : goal.loop-number-preserved
loop-number-preserved g c =
    let n = c.loop-number.number in
    let kept = c.loop-number.invariant in
    let supply = c.args.supply.now in
    let declared = c.args.declared.now in
    let readers = next_at n supply.readers.items c.loop-number.supply.readers.items c.take_next-readers.new.items.items c.take_next-readers.result kept.readers c.take_next-readers.ensures in
    let passes = next_at n supply.passes.items c.loop-number.supply.passes.items c.take_next-passes.new.items.items c.take_next-passes.result kept.passes c.take_next-passes.ensures in
    let seat : length c.loop-number.supply.seats.left.items ≡ length c.take_next-seat.new.self.left.items + 1 = ap length c.take_next-seat.ensures.left ∙ omega arith in
    record {
      passes = passes.1;
      readers = readers.1;
      seats = omega (arith, seat, kept.seats);
      drafts = added (IsWorkerDraft c.args.ground.now.posts supply.passes.items supply.readers.items declared.bots.items declared.guilds.items c.args.port) n c.loop-number.drafts.items c.push_back.new.self.items _
          kept.drafts c.in_ok-push_back.ensures.items (record {
            posts_are = c.in_ok-share.ensures.posts;
            passes_are = passes.0;
            readers_are = readers.0;
            worker_is = c.in_ok-share.ensures.worker;
          });
    }
