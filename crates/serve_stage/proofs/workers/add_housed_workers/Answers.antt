use Rattle.std.proofs.Common.{◌≡◌, length, sym, subst, arith}
use Rattle.run_stage.specs.Dealing.{AreFrom, IsAt}
use Rattle.run_stage.proofs.Numbered.{added, all_at, next_at}
use Rattle.serve_stage.specs.Drafts.{IsHousedWorker, MayWork}
use Rattle.serve_stage.proofs.workers.add_housed_workers.Goals as goal

pub worker_part-requires : goal.worker_part-requires
worker_part-requires g c =
    let n = c.loop-number.number in
    let draft = next_at n c.args.drafts.items c.loop-number.drafts.items c.take_next-draft.new.items.items c.take_next-draft.result c.loop-number.invariant.drafts c.take_next-draft.ensures in
    all_at MayWork c.args.drafts.items n c.take_next-draft.result c.requires.drafts.1 draft.0

pub loop-number-preserved : goal.loop-number-preserved
loop-number-preserved g c =
    let n = c.loop-number.number in
    let kept = c.loop-number.invariant in
    let draft = next_at n c.args.drafts.items c.loop-number.drafts.items c.take_next-draft.new.items.items c.take_next-draft.result kept.drafts c.take_next-draft.ensures in
    let door = next_at n c.args.doors.items c.loop-number.doors_left.items c.take_next-door.new.items.items c.take_next-door.result kept.doors c.take_next-door.ensures in
    let clock = next_at n c.args.clocks.items c.loop-number.clocks_left.items c.take_next-clock.new.items.items c.take_next-clock.result kept.clocks c.take_next-clock.ensures in
    record {
      drafts = draft.1;
      doors = door.1;
      clocks = clock.1;
      room = (omega arith, omega arith);
      parts = added (IsHousedWorker c.args.drafts.items c.args.doors.items c.args.clocks.items) n c.loop-number.parts.items c.push_reserved.new.self.items c.worker_part.result
          kept.parts c.push_reserved.ensures.items (record {
            draft = c.take_next-draft.result;
            is_draft = draft.0;
            is_door = subst (IsAt c.args.doors.items n) (sym c.worker_part.ensures.own.0) door.0;
            is_clock = subst (IsAt c.args.clocks.items n) (sym c.worker_part.ensures.own.1) clock.0;
            is_of = c.worker_part.ensures.made;
          });
    }

pub returns : goal.returns
returns g c =
    let end : c.loop-number.number ≡ length c.args.doors.items = omega arith in
    subst (λ k. AreFrom (IsHousedWorker c.args.drafts.items c.args.doors.items c.args.clocks.items) 0 k c.loop-number.parts.items) end c.loop-number.invariant.parts
