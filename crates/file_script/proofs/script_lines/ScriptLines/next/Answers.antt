use Rattle.std.proofs.Common.{◌++◌, [], ◌∷◌, Bool, Option, None, Ok, Err, sym, ap, ◌∙◌, subst, append-nil, arith}
use Rattle.std.proofs.lemmas.Result.{err_from_is_err_and}
use Rattle.edit_text.specs.declared.line.Line.{Line}
use Rattle.edit_text.specs.declared.reader_state.ReaderState.{ReaderState}
use Rattle.file_script.specs.Reads.{HasGiven, Gives, HasLine, LineComes}
use Rattle.file_script.proofs.Accepting.{said_by}
use Rattle.file_script.proofs.Counting.{counts_on}
use Rattle.file_script.proofs.Reading.{goes_on, line_says, line_fails}
use Rattle.file_script.proofs.script_lines.ScriptLines.next.Goals as goal

pub returns-in_err-read_line-clause-gives : goal.returns-in_err-read_line-clause-gives
returns-in_err-read_line-clause-gives g c bytes given has =
    let left = g.S.Source.left in
    let at = c.loop-self.invariant.given bytes given has in
    let comes = c.in_err-read_line.ensures.comes (bytes ++ at.0) given at.2 in
    let e = err_from_is_err_and c.from_residual.result c.from_residual.ensures.1 in
    goes_on (left c.args.source.now) (left c.loop-self.source) (left c.read_line.new.source) (λ l. Gives (left c.read_line.new.source) c.read_line.new.self l given c.from_residual.result) bytes at.0 at.1
    (comes.0, comes.1, subst (λ r. Gives (left c.read_line.new.source) c.read_line.new.self ((bytes ++ at.0) ++ comes.0) given r) (sym (e.1 ∙ ap Err e.2)) comes.2)

pub returns-in_err-line-clause-gives : goal.returns-in_err-line-clause-gives
returns-in_err-line-clause-gives g c bytes given has =
    let left = g.S.Source.left in
    let at = c.loop-self.invariant.given bytes given has in
    let comes = c.in_ok-read_line.ensures.comes (bytes ++ at.0) given at.2 in
    let line : HasLine (left c.read_line.new.source) c.read_line.new.self ((bytes ++ at.0) ++ comes.0) given =
    subst (λ (b : Bool). LineComes (left c.read_line.new.source) c.read_line.new.self ((bytes ++ at.0) ++ comes.0) given (Ok b)) c.if-branch.true comes.2 in
    let e = err_from_is_err_and c.from_residual-in_err-line.result c.from_residual-in_err-line.ensures.1 in
    goes_on (left c.args.source.now) (left c.loop-self.source) (left c.read_line.new.source) (λ l. Gives (left c.read_line.new.source) c.parse.new.self l given c.from_residual-in_err-line.result) bytes at.0 at.1 (
      comes.0,
      comes.1,
      subst (λ r. Gives (left c.read_line.new.source) c.parse.new.self ((bytes ++ at.0) ++ comes.0) given r) (sym (e.1 ∙ ap Err e.2))
          (line_fails (left c.read_line.new.source) c.read_line.new.self ((bytes ++ at.0) ++ comes.0) given line c.parse.new.self c.in_err-line.ensures.lines c.in_err-line.ensures.ended c.in_err-line.field-0.0 c.in_err-line.ensures.said),
    )

pub returns-in-Some-clause-gives : goal.returns-in-Some-clause-gives
returns-in-Some-clause-gives g c bytes given has =
    let left = g.S.Source.left in
    let at = c.loop-self.invariant.given bytes given has in
    let comes = c.in_ok-read_line.ensures.comes (bytes ++ at.0) given at.2 in
    let line : HasLine (left c.read_line.new.source) c.read_line.new.self ((bytes ++ at.0) ++ comes.0) given =
    subst (λ (b : Bool). LineComes (left c.read_line.new.source) c.read_line.new.self ((bytes ++ at.0) ++ comes.0) given (Ok b)) c.if-branch.true comes.2 in
    goes_on (left c.args.source.now) (left c.loop-self.source) (left c.read_line.new.source) (λ l. HasGiven (left c.read_line.new.source) c.parse.new.self l (given ++ c.in-Some.line ∷ [])) bytes at.0 at.1 (
      comes.0,
      comes.1,
      subst (λ (o : Option Line). HasGiven (left c.read_line.new.source) c.parse.new.self ((bytes ++ at.0) ++ comes.0) (given ++ said_by o)) c.in-Some.is
          (line_says (left c.read_line.new.source) c.read_line.new.self ((bytes ++ at.0) ++ comes.0) given line c.parse.new.self c.in_ok-line.ensures.lines c.in_ok-line.ensures.ended c.in_ok-line.field-0 c.in_ok-line.ensures.said),
    )

pub returns-in-Some-clause-counts : goal.returns-in-Some-clause-counts
returns-in-Some-clause-counts g c =
    let counts = counts_on c.read_line.new.self.reader c.parse.new.self.reader c.read_line.new.self.lines.line c.in_ok-line.field-0 c.in_ok-line.ensures.said.0 c.in_ok-line.ensures.said.1 in
    let same = ap (λ (r : ReaderState). r.lines) c.in_ok-read_line.ensures.reader in
    (omega (arith, counts.0, same, c.loop-self.invariant.counts), counts.1)

pub loop-self-smaller : goal.loop-self-smaller
loop-self-smaller g c =
    let counts = counts_on c.read_line.new.self.reader c.parse.new.self.reader c.read_line.new.self.lines.line c.in_ok-line.field-0 c.in_ok-line.ensures.said.0 c.in_ok-line.ensures.said.1 in
    let same = ap (λ (r : ReaderState). r.lines) c.in_ok-read_line.ensures.reader in
    omega (arith, counts.0, counts.1, same)

pub loop-self-preserved : goal.loop-self-preserved
loop-self-preserved g c =
    let left = g.S.Source.left in
    let counts = counts_on c.read_line.new.self.reader c.parse.new.self.reader c.read_line.new.self.lines.line c.in_ok-line.field-0 c.in_ok-line.ensures.said.0 c.in_ok-line.ensures.said.1 in
    let same = ap (λ (r : ReaderState). r.lines) c.in_ok-read_line.ensures.reader in
    record {
      given = λ bytes given has.
          let at = c.loop-self.invariant.given bytes given has in
          let comes = c.in_ok-read_line.ensures.comes (bytes ++ at.0) given at.2 in
          let line : HasLine (left c.read_line.new.source) c.read_line.new.self ((bytes ++ at.0) ++ comes.0) given =
          subst (λ (b : Bool). LineComes (left c.read_line.new.source) c.read_line.new.self ((bytes ++ at.0) ++ comes.0) given (Ok b)) c.if-branch.true comes.2 in
          let blank : HasGiven (left c.read_line.new.source) c.parse.new.self ((bytes ++ at.0) ++ comes.0) (given ++ []) =
          subst (λ (o : Option Line). HasGiven (left c.read_line.new.source) c.parse.new.self ((bytes ++ at.0) ++ comes.0) (given ++ said_by o)) c.in_default.is
          (line_says (left c.read_line.new.source) c.read_line.new.self ((bytes ++ at.0) ++ comes.0) given line c.parse.new.self c.in_ok-line.ensures.lines c.in_ok-line.ensures.ended c.in_ok-line.field-0 c.in_ok-line.ensures.said) in
          goes_on (left c.args.source.now) (left c.loop-self.source) (left c.read_line.new.source) (λ l. HasGiven (left c.read_line.new.source) c.parse.new.self l given) bytes at.0 at.1
          (comes.0, comes.1, subst (λ ls. HasGiven (left c.read_line.new.source) c.parse.new.self ((bytes ++ at.0) ++ comes.0) ls) (append-nil given) blank);
      counts = omega (arith, counts.0, same, c.loop-self.invariant.counts);
      faults = c.in_ok-read_line.ensures.cause.ok ∙ c.loop-self.invariant.faults;
    }

pub returns-clause-gives : goal.returns-clause-gives
returns-clause-gives g c bytes given has =
    let left = g.S.Source.left in
    let at = c.loop-self.invariant.given bytes given has in
    let comes = c.in_ok-read_line.ensures.comes (bytes ++ at.0) given at.2 in
    goes_on (left c.args.source.now) (left c.loop-self.source) (left c.read_line.new.source) (λ l. Gives (left c.read_line.new.source) c.read_line.new.self l given (Ok None)) bytes at.0 at.1
    (comes.0, comes.1, subst (λ (b : Bool). LineComes (left c.read_line.new.source) c.read_line.new.self ((bytes ++ at.0) ++ comes.0) given (Ok b)) c.if-branch.false comes.2)
