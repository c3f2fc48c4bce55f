use Rattle.std.proofs.Common.{◌≡◌, length, sym, subst, arith}
use Rattle.run_stage.specs.Dealing.{AreFrom, IsAt}
use Rattle.run_stage.proofs.Numbered.{added, all_at, next_at}
use Rattle.serve_stage.specs.Drafts.{IsFiledScript, MaySend}
use Rattle.serve_stage.proofs.scripts.add_filed_scripts.Goals as goal

pub script_part-requires : goal.script_part-requires
script_part-requires g c =
    let n = c.loop-number.number in
    let draft = next_at n c.args.drafts.items c.loop-number.drafts.items c.take_next-draft.new.items.items c.take_next-draft.result c.loop-number.invariant.drafts c.take_next-draft.ensures in
    all_at MaySend c.args.drafts.items n c.take_next-draft.result c.requires.drafts.1 draft.0

pub loop-number-preserved : goal.loop-number-preserved
loop-number-preserved g c =
    let n = c.loop-number.number in
    let kept = c.loop-number.invariant in
    let draft = next_at n c.args.drafts.items c.loop-number.drafts.items c.take_next-draft.new.items.items c.take_next-draft.result kept.drafts c.take_next-draft.ensures in
    let file = next_at n c.args.files.items c.loop-number.left.items c.take_next-file.new.items.items c.take_next-file.result kept.files c.take_next-file.ensures in
    record {
      drafts = draft.1;
      files = file.1;
      room = (omega arith, omega arith);
      parts = added (IsFiledScript c.args.drafts.items c.args.files.items) n c.loop-number.parts.items c.push_reserved.new.self.items c.script_part.result
          kept.parts c.push_reserved.ensures.items (record {
            draft = c.take_next-draft.result;
            is_draft = draft.0;
            is_file = subst (IsAt c.args.files.items n) (sym c.script_part.ensures.file) file.0;
            is_of = c.script_part.ensures.made;
          });
    }

pub returns : goal.returns
returns g c =
    let end : c.loop-number.number ≡ length c.args.files.items = omega arith in
    subst (λ k. AreFrom (IsFiledScript c.args.drafts.items c.args.files.items) 0 k c.loop-number.parts.items) end c.loop-number.invariant.parts
