use Rattle.std.proofs.Common.{◌∙◌, ◌++◌, [], Ok, Err, Bool, true, false, refl, sym, ap, subst}
use Rattle.std.proofs.lemmas.Result.{err_from_is_err_and}
use Rattle.std.proofs.KnownBytes.{Consumes-nil}
use Rattle.gate_outside.proofs.Fronts.{puts_front}
use Rattle.edit_text.specs.declared.reader_state.ReaderState.{ReaderState}
use Rattle.file_lines.specs.Reads.{HeldBytes}
use Rattle.file_lift.specs.Lifted.{lifted_file}
use Rattle.file_lift.specs.Lifting.{IsRead, LiftsLine}
use Rattle.file_lift.proofs.Going.{begins, read_fails, fed_is_next, line_fails, line_lifted, last_reads}
use Rattle.file_lift.proofs.lifting.lift_lines.Goals as goal

pub returns-in_err-lifter-clause-lifts : goal.returns-in_err-lifter-clause-lifts
returns-in_err-lifter-clause-lifts g c =
    let e = err_from_is_err_and c.from_residual.result c.from_residual.ensures.1 in
    rw e.1 (rw e.2 ([], Consumes-nil (g.S.Source.left c.args.source.now), λ rest is. puts_front (g.K.Sink.got c.args.sink.now) (g.K.Sink.waits c.args.sink.now) (lifted_file ([] ++ rest)) _ refl))

pub loop-lifter-init : goal.loop-lifter-init
loop-lifter-init g c = record {
  lifted = begins _ _ _ _ c.in_ok-lifter.ensures.ahead c.in_ok-lifter.ensures.reader;
  reads = refl;
  writes = refl;
}

pub returns-in_err-read_line-clause-lifts : goal.returns-in_err-read_line-clause-lifts
returns-in_err-read_line-clause-lifts g c =
    let e = err_from_is_err_and c.from_residual-in_err-read_line.result c.from_residual-in_err-read_line.ensures.1 in
    let read = c.in_err-read_line.ensures.read in
    rw e.1 (rw e.2 (read_fails (g.S.Source.left c.args.source.now) (g.S.Source.left c.loop-lifter.source) (g.S.Source.left c.read_line.new.source) _ _ _ _ c.loop-lifter.lifter c.loop-lifter.invariant.lifted read.0 read.1 _ c.read_line.new.self.lines read.2))

pub loop-lifter-preserved : goal.loop-lifter-preserved
loop-lifter-preserved g c =
    let read = c.in_ok-read_line.ensures.read in
    let fed : IsRead (g.S.Source.left c.read_line.new.source) (c.loop-lifter.lifter.lines.ahead ++ read.0) c.read_line.new.self.lines (Ok true) =
    subst (λ (b : Bool). IsRead (g.S.Source.left c.read_line.new.source) (c.loop-lifter.lifter.lines.ahead ++ read.0) c.read_line.new.self.lines (Ok b)) c.if-branch.true read.2 in
    let same = c.in_ok-lift_line.ensures.lines in
    let lifts : LiftsLine c.loop-lifter.lifter.reader c.read_line.new.self.lines.line c.lift_line.new.self.reader
    (g.K.Sink.got c.loop-lifter.sink) (g.K.Sink.got c.lift_line.new.sink) (g.K.Sink.waits c.loop-lifter.sink) (g.K.Sink.waits c.lift_line.new.sink) (Ok tt) =
    rw c.in_ok-read_line.ensures.reader at c.in_ok-lift_line.ensures.lifts in
    record {
      lifted = line_lifted (g.S.Source.left c.args.source.now) (g.S.Source.left c.loop-lifter.source) (g.S.Source.left c.read_line.new.source) _ _ _ _ c.loop-lifter.lifter c.loop-lifter.invariant.lifted read.0 read.1
          (g.K.Sink.got c.lift_line.new.sink) (g.K.Sink.waits c.lift_line.new.sink) c.read_line.new.self.lines.line c.lift_line.new.self.reader lifts c.lift_line.new.self (ap (λ (h : HeldBytes). h.line) same) refl (rw (sym same) at fed);
      reads = c.in_ok-read_line.ensures.cause ∙ c.loop-lifter.invariant.reads;
      writes = c.in_ok-lift_line.ensures.cause ∙ c.loop-lifter.invariant.writes;
    }

pub returns-in_err-lift_line-clause-lifts : goal.returns-in_err-lift_line-clause-lifts
returns-in_err-lift_line-clause-lifts g c =
    let e = err_from_is_err_and c.from_residual-in_err-lift_line.result c.from_residual-in_err-lift_line.ensures.1 in
    let read = c.in_ok-read_line.ensures.read in
    let fed : IsRead (g.S.Source.left c.read_line.new.source) (c.loop-lifter.lifter.lines.ahead ++ read.0) c.read_line.new.self.lines (Ok true) =
    subst (λ (b : Bool). IsRead (g.S.Source.left c.read_line.new.source) (c.loop-lifter.lifter.lines.ahead ++ read.0) c.read_line.new.self.lines (Ok b)) c.if-branch.true read.2 in
    let lifts = subst (λ (r : ReaderState). LiftsLine r c.read_line.new.self.lines.line c.lift_line.new.self.reader
    (g.K.Sink.got c.loop-lifter.sink) (g.K.Sink.got c.lift_line.new.sink) (g.K.Sink.waits c.loop-lifter.sink) (g.K.Sink.waits c.lift_line.new.sink) (Err c.in_err-lift_line.field-0.0))
    c.in_ok-read_line.ensures.reader c.in_err-lift_line.ensures.lifts in
    let left0 = g.S.Source.left c.args.source.now in
    let left1 = g.S.Source.left c.loop-lifter.source in
    let left2 = g.S.Source.left c.read_line.new.source in
    rw e.1 (rw e.2 (line_fails left0 left1 left2 _ _ _ _ c.loop-lifter.lifter c.loop-lifter.invariant.lifted read.0 read.1
    (g.K.Sink.got c.lift_line.new.sink) (g.K.Sink.waits c.lift_line.new.sink) c.read_line.new.self.lines.line c.lift_line.new.self.reader
    (fed_is_next left0 left1 left2 _ _ _ _ c.loop-lifter.lifter c.loop-lifter.invariant.lifted read.0 read.1 c.read_line.new.self.lines fed) c.in_err-lift_line.field-0.0 lifts))

pub returns-clause-lifts : goal.returns-clause-lifts
returns-clause-lifts g c =
    let read = c.in_ok-read_line.ensures.read in
    let last : IsRead (g.S.Source.left c.read_line.new.source) (c.loop-lifter.lifter.lines.ahead ++ read.0) c.read_line.new.self.lines (Ok false) =
    subst (λ (b : Bool). IsRead (g.S.Source.left c.read_line.new.source) (c.loop-lifter.lifter.lines.ahead ++ read.0) c.read_line.new.self.lines (Ok b)) c.if-branch.false read.2 in
    last_reads (g.S.Source.left c.args.source.now) (g.S.Source.left c.loop-lifter.source) (g.S.Source.left c.read_line.new.source) _ _ _ _ c.loop-lifter.lifter c.loop-lifter.invariant.lifted read.0 read.1
    (g.K.Sink.got c.lift_last.new.sink) (g.K.Sink.waits c.lift_last.new.sink) c.read_line.new.self.lines c.lift_last.new.self.reader c.lift_last.result last
    c.lift_last.ensures.none (λ h. rw c.in_ok-read_line.ensures.reader at (c.lift_last.ensures.some h))
