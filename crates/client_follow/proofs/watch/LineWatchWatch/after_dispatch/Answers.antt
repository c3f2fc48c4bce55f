use Rattle.std.proofs.Common.{◌≡◌, ◌++◌, ◌∷◌, ◌∙◌, [], refl, sym, ap, inl, arith}
use Rattle.dispatch_types.specs.Kinds.{kind_of}
use Rattle.client_follow.specs.declared.watch.Seen.{Seen}
use Rattle.client_run.specs.Watched.{dispatch_line}
use Rattle.client_follow.proofs.Telling.{told_before, told_line, same_some}
use Rattle.client_follow.proofs.watch.LineWatchWatch.after_dispatch.Goals as goal

pub returns-in-Err-clause-told : goal.returns-in-Err-clause-told
returns-in-Err-clause-told g c number dispatch looked =
    told_before c.args.self.now.asked c.args.self.now.count (g.K.Sink.got c.args.sink.now) (g.K.Sink.waits c.args.sink.now) c.args.self.now.waiting.items c.add_line.new.text.items (g.K.Sink.faults c.args.sink.now) c.args.self.now.failed
    (dispatch_line number (kind_of dispatch) ∷ []) c.in-Err.ensures

pub returns-in-Err-Memory-clause-told : goal.returns-in-Err-Memory-clause-told
returns-in-Err-Memory-clause-told g c number dispatch looked =
    let seen : c.in-Some-Some.seen ≡ record { number = number; kind = kind_of dispatch } = same_some c.in-Some-Some.seen (record { number = number; kind = kind_of dispatch }) (sym c.in-Some-Some.is-0 ∙ looked) in
    let added = c.in_default-add_line.ensures ∙ ap (λ (s : Seen). c.args.self.now.waiting.items ++ dispatch_line s.number s.kind) seen in
    record {
      front = dispatch_line number (kind_of dispatch) ∷ [];
      rest = [];
      parts = refl;
      told = told_line c.args.self.now.asked c.in-Some-Some.asked c.args.self.now.count (g.K.Sink.got c.args.sink.now) (g.K.Sink.got c.write_out.new.sink) (g.K.Sink.waits c.args.sink.now) (g.K.Sink.waits c.write_out.new.sink)
          c.args.self.now.waiting.items c.add_line.new.text.items c.write_out.new.waiting.items (dispatch_line number (kind_of dispatch)) (g.K.Sink.faults c.args.sink.now) (g.K.Sink.faults c.write_out.new.sink)
          c.args.self.now.failed c.args.self.now.failed (omega (arith, c.in-Some-Some.ensures.1)) added c.in-Err-Memory.ensures.bytes c.in-Err-Memory.ensures.cause.later (λ e. inl e);
    }
