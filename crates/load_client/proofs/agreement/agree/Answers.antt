use Rattle.std.proofs.Common.{ℕ, ◌+◌, ◌<◌, length, sym, subst, arith}
use Rattle.load_client.proofs.Counting.{CountsTo, not_so, counts_one, counts_past, counts_all}
use Rattle.load_client.proofs.agreement.agree.Goals as goal
use Rattle.load_client.proofs.agreement.agree.Goals.{then-branch, else-branch}

pub loop-record-preserved : goal.loop-record-preserved
loop-record-preserved c =
    let rs = c.args.records.now in
    let i = c.loop-record.record-index in
    let v = c.args.viewer.now in
    let kept = c.args.cache.now in
    let below : i < length rs = omega arith in
    let counts = c.loop-record.invariant.counts in
    elim c.if-branch.branch [
      | then-branch w ↦ record {
        few = omega arith;
        counts = subst (λ (n : ℕ). CountsTo (λ guild. guild.now) v kept rs (i + 1) n) (sym w.count-is)
            (counts_one (λ guild. guild.now) v kept rs i c.record-item.result c.loop-record.count below (sym c.record-item.is) (c.in_ok-agrees.ensures.0 w.if-branch.true) counts);
      }
      | else-branch w ↦ record {
        few = omega arith;
        counts = subst (λ (n : ℕ). CountsTo (λ guild. guild.now) v kept rs (i + 1) n) (sym w.count-is)
            (counts_past (λ guild. guild.now) v kept rs i c.record-item.result c.loop-record.count below (sym c.record-item.is) (not_so c.in_ok-agrees.field-0 c.in_ok-agrees.ensures w.if-branch.false) counts);
      }
    ]

pub returns : goal.returns
returns c =
    counts_all (λ guild. guild.now) c.args.viewer.now c.args.cache.now c.args.records.now c.loop-record.record-index c.loop-record.count (omega arith) c.loop-record.invariant.counts
