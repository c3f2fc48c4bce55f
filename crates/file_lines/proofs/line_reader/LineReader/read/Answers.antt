use Rattle.std.proofs.Common.{◌++◌, ℕ, List, [], inl, inr, true, false, refl, sym, ap₂, ◌∙◌, subst, append-nil, arith}
use Rattle.std.proofs.KnownBytes.{Consumes-nil}
use Rattle.std.proofs.lemmas.Result.{err_from_is_err_and}
use Rattle.file_lines.specs.Reads.{LineGrows}
use Rattle.file_lines.proofs.Reading.{no_feed, next_bytes, line_ended, line_grown, piece_more}
use Rattle.file_lines.proofs.line_reader.LineReader.read.Goals as goal

pub returns-in_err-grow-clause-read : goal.returns-in_err-grow-clause-read
returns-in_err-grow-clause-read g c =
    let at = c.loop-self in
    let left = g.S.Source.left in
    let has = next_bytes (left c.args.source.now) (left at.source) (left c.fill.new.source) c.args.self.now.ahead at.self c.fill.new.self c.in_ok-fill.field-0
    at.invariant.read at.invariant.piece c.in_ok-fill.ensures.line c.if-branch.true c.in_ok-fill.ensures.reads in
    let e = err_from_is_err_and c.from_residual-in_err-grow.result c.from_residual-in_err-grow.ensures.1 in
    (has.0.0, has.0.1, has.0.3, rw e.1 (rw e.2 tt))

pub returns-then-branch-2-clause-read : goal.returns-then-branch-2-clause-read
returns-then-branch-2-clause-read g c =
    let at = c.loop-self in
    let left = g.S.Source.left in
    let has = next_bytes (left c.args.source.now) (left at.source) (left c.fill.new.source) c.args.self.now.ahead at.self c.fill.new.self c.in_ok-fill.field-0
    at.invariant.read at.invariant.piece c.in_ok-fill.ensures.line c.if-branch.true c.in_ok-fill.ensures.reads in
    let grows : LineGrows c.args.most c.fill.new.self c.grow.new.self true = subst (λ b. LineGrows c.args.most c.fill.new.self c.grow.new.self b) c.if-branch-2.true c.in_ok-grow.ensures in
    line_ended (left c.args.source.now) (left c.fill.new.source) c.args.self.now.ahead c.fill.new.self.line c.fill.new.self.ahead has.0 c.args.most has.1 c.grow.new.self grows

pub loop-self-preserved : goal.loop-self-preserved
loop-self-preserved g c =
    let at = c.loop-self in
    let left = g.S.Source.left in
    let has = next_bytes (left c.args.source.now) (left at.source) (left c.fill.new.source) c.args.self.now.ahead at.self c.fill.new.self c.in_ok-fill.field-0
    at.invariant.read at.invariant.piece c.in_ok-fill.ensures.line c.if-branch.true c.in_ok-fill.ensures.reads in
    let grows : LineGrows c.args.most c.fill.new.self c.grow.new.self false = subst (λ b. LineGrows c.args.most c.fill.new.self c.grow.new.self b) c.if-branch-2.false c.in_ok-grow.ensures in
    record {
      read = (line_grown (left c.args.source.now) (left c.fill.new.source) c.args.self.now.ahead c.fill.new.self.line c.fill.new.self.ahead has.0 c.args.most has.1 c.grow.new.self grows, inr grows.2);
      piece = rw grows.1 (piece_more c.fill.new.self.line c.fill.new.self.ahead has.1 grows.0);
      short = grows.3;
      faults = c.in_ok-fill.ensures.cause.ok ∙ at.invariant.faults;
    }

pub loop-self-init : goal.loop-self-init
loop-self-init g c = record {
  read = (
    (
      [],
      Consumes-nil (g.S.Source.left c.args.source.now),
      append-nil c.args.self.now.ahead ∙ sym (ap₂ (λ (l : List ℕ) (a : List ℕ). l ++ a) c.begin.ensures.line c.begin.ensures.ahead),
      inl refl,
    ),
    inl refl,
  );
  piece = rw c.begin.ensures.line no_feed;
  short = rw c.begin.ensures.line (omega arith);
  faults = refl;
}
