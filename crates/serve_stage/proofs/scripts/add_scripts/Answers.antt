use Rattle.std.proofs.Common.{◌≡◌, ◌+◌, length, arith, ap, ◌∙◌}
use Rattle.guild_places.specs.Places.{guilds_of}
use Rattle.run_stage.proofs.Numbered.{added, next_at}
use Rattle.serve_stage.specs.Drafts.{IsScriptDraft}
use Rattle.serve_stage.proofs.scripts.add_scripts.Goals as goal

pub loop-number-preserved : goal.loop-number-preserved
loop-number-preserved g c =
    let n = c.loop-number.number in
    let kept = c.loop-number.invariant in
    let supply = c.args.supply.now in
    let passes = next_at n supply.passes.items c.loop-number.supply.passes.items c.take_next-passes.new.items.items c.take_next-passes.result kept.passes c.take_next-passes.ensures in
    let seat : length c.loop-number.supply.seats.left.items ≡ length c.take_next-seat.new.self.left.items + 1 = ap length c.take_next-seat.ensures.left ∙ omega arith in
    record {
      passes = passes.1;
      readers = kept.readers;
      seats = omega (arith, seat, kept.seats);
      drafts = added (IsScriptDraft c.args.ground.now.posts (guilds_of c.args.writers.now) supply.passes.items) n c.loop-number.drafts.items c.push_back.new.self.items _
          kept.drafts c.in_ok-push_back.ensures.items (record {
            posts_are = c.in_ok-share.ensures.posts;
            passes_are = passes.0;
            index_is = c.in_ok-share.ensures.index;
          });
    }
