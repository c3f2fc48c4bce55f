use Rattle.std.proofs.Common.{◌≡◌, drop, sym, subst, arith}
use Rattle.run_stage.specs.Dealing.{AreFrom, IsAt}
use Rattle.run_stage.proofs.Numbered.{added, all_at, next_at}
use Rattle.load_stage.specs.Drafts.{CanBegin, IsClockedWorker}
use Rattle.load_stage.proofs.workers.clocked_workers.Goals as goal

pub worker_part-requires : goal.worker_part-requires
worker_part-requires g c =
    let n = c.loop-number.number in
    let draft = next_at n c.args.drafts.items c.loop-number.drafts.items c.take_next-draft.new.items.items c.take_next-draft.result c.loop-number.invariant.drafts c.take_next-draft.ensures in
    all_at CanBegin c.args.drafts.items n c.take_next-draft.result c.requires.drafts.1 draft.0

pub loop-number-preserved : goal.loop-number-preserved
loop-number-preserved g c =
    let n = c.loop-number.number in
    let kept = c.loop-number.invariant in
    let draft = next_at n c.args.drafts.items c.loop-number.drafts.items c.take_next-draft.new.items.items c.take_next-draft.result kept.drafts c.take_next-draft.ensures in
    let clock = next_at n c.args.clocks.now.items c.loop-number.clocks.items c.take_next-clock.new.items.items c.take_next-clock.result kept.clocks c.take_next-clock.ensures in
    record {
      drafts = draft.1;
      clocks = clock.1;
      room = (omega arith, omega arith);
      parts = added (IsClockedWorker c.args.drafts.items c.args.clocks.now.items) n c.loop-number.parts.items c.push_reserved.new.self.items c.worker_part.result
          kept.parts c.push_reserved.ensures.items (record {
            draft = c.take_next-draft.result;
            is_draft = draft.0;
            is_clock = subst (IsAt c.args.clocks.now.items n) (sym c.worker_part.ensures.clock) clock.0;
            is_of = c.worker_part.ensures.made;
          });
    }

pub returns-clause-clocks : goal.returns-clause-clocks
returns-clause-clocks g c =
    let three : c.loop-number.number ≡ 3 = omega arith in
    subst (λ k. c.loop-number.clocks.items ≡ drop k c.args.clocks.now.items) three c.loop-number.invariant.clocks

pub returns-clause-parts : goal.returns-clause-parts
returns-clause-parts g c =
    let three : c.loop-number.number ≡ 3 = omega arith in
    subst (λ k. AreFrom (IsClockedWorker c.args.drafts.items c.args.clocks.now.items) 0 k c.loop-number.parts.items) three c.loop-number.invariant.parts
