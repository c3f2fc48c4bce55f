use Rattle.std.proofs.Common.{sym, subst, arith}
use Rattle.run_stage.specs.Dealing.{IsAt}
use Rattle.run_stage.proofs.Numbered.{added, all_at, next_at}
use Rattle.load_stage.specs.Drafts.{HasNotFailed, IsClockedClient}
use Rattle.load_stage.proofs.clients.clocked_clients.Goals as goal

pub client_part-requires : goal.client_part-requires
client_part-requires g c =
    let n = c.loop-number.number in
    let draft = next_at n c.args.drafts.items c.loop-number.drafts.items c.take_next-draft.new.items.items c.take_next-draft.result c.loop-number.invariant.drafts c.take_next-draft.ensures in
    all_at HasNotFailed c.args.drafts.items n c.take_next-draft.result c.requires.drafts.1 draft.0

pub loop-number-preserved : goal.loop-number-preserved
loop-number-preserved g c =
    let n = c.loop-number.number in
    let kept = c.loop-number.invariant in
    let draft = next_at n c.args.drafts.items c.loop-number.drafts.items c.take_next-draft.new.items.items c.take_next-draft.result kept.drafts c.take_next-draft.ensures in
    let clock = next_at n c.args.clocks.now.items c.loop-number.clocks.items c.take_next-clock.new.items.items c.take_next-clock.result kept.clocks c.take_next-clock.ensures in
    record {
      drafts = draft.1;
      clocks = clock.1;
      room = (omega arith, omega arith);
      parts = added (IsClockedClient c.args.drafts.items c.args.clocks.now.items) n c.loop-number.parts.items c.push_reserved.new.self.items c.client_part.result
          kept.parts c.push_reserved.ensures.items (record {
            draft = c.take_next-draft.result;
            is_draft = draft.0;
            is_clock = subst (IsAt c.args.clocks.now.items n) (sym c.client_part.ensures.clock) clock.0;
            is_of = c.client_part.ensures.made;
          });
    }
