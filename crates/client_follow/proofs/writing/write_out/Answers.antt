use Rattle.std.proofs.Common.{◌++◌, ◌∙◌, List, ℕ, ap, subst, sym, take}
use Rattle.gate_outside.specs.Streams.{Carries}
use Rattle.client_follow.proofs.Going.{carries_none, carries_some, flushed}
use Rattle.client_follow.proofs.writing.write_out.Goals as goal

pub returns-in_err-count-clause-bytes : goal.returns-in_err-count-clause-bytes
returns-in_err-count-clause-bytes g c =
    carries_none (g.K.Sink.got c.args.sink.now) (g.K.Sink.got c.loop-sink.sink) (g.K.Sink.got c.write.new.self) (g.K.Sink.waits c.loop-sink.sink) (g.K.Sink.waits c.write.new.self) c.loop-sink.waiting.items
    (g.K.Sink.waits c.args.sink.now ++ c.args.waiting.now.items) c.loop-sink.invariant.carries c.in_err-count.ensures.bytes

pub loop-sink-preserved : goal.loop-sink-preserved
loop-sink-preserved g c =
    let got0 = g.K.Sink.got c.args.sink.now in
    let got2 = g.K.Sink.got c.write.new.self in
    let waits2 = g.K.Sink.waits c.write.new.self in
    let all = g.K.Sink.waits c.args.sink.now ++ c.args.waiting.now.items in
    let here = subst (λ (l : List ℕ). Carries (g.K.Sink.got c.loop-sink.sink) got2 waits2 (g.K.Sink.waits c.loop-sink.sink ++ l)) (ap (λ (l : List ℕ). take c.in_ok-count.count l) c.as_slice.ensures.value) c.in_ok-count.ensures.bytes in
    record {
      carries = subst (λ (rest : List ℕ). Carries got0 got2 (waits2 ++ rest) all) (sym c.remove_front.ensures)
          (carries_some got0 (g.K.Sink.got c.loop-sink.sink) got2 c.in_ok-count.count (g.K.Sink.waits c.loop-sink.sink) waits2 c.loop-sink.waiting.items all c.loop-sink.invariant.carries here);
      same = c.in_ok-count.ensures.cause.ok ∙ c.loop-sink.invariant.same;
    }

pub returns-clause-bytes : goal.returns-clause-bytes
returns-clause-bytes g c =
    carries_none (g.K.Sink.got c.args.sink.now) (g.K.Sink.got c.loop-sink.sink) (g.K.Sink.got c.flush.new.self) (g.K.Sink.waits c.loop-sink.sink) (g.K.Sink.waits c.flush.new.self) c.loop-sink.waiting.items
    (g.K.Sink.waits c.args.sink.now ++ c.args.waiting.now.items) c.loop-sink.invariant.carries
    (flushed c.flush.result (g.K.Sink.got c.loop-sink.sink) (g.K.Sink.got c.flush.new.self) (g.K.Sink.waits c.loop-sink.sink) (g.K.Sink.waits c.flush.new.self) c.flush.ensures.ok c.flush.ensures.none c.flush.ensures.err)
