use Rattle.std.proofs.Common.{◌≤◌, ◌∙◌, Ok, length, string_bytes, sym, ap}
use Rattle.file_lift.specs.Lifted.{newest_said}
use Rattle.file_lift.proofs.Counting.{counts_on, has_text}
use Rattle.file_lift.proofs.lifter.Lifter.text.Goals as goal

pub returns-clause-text : goal.returns-clause-text
returns-clause-text c =
    let said = c.in_ok-said.ensures.said in
    let short : length (string_bytes c.in_ok-text.text) ≤ 65536 = rw c.as_bytes.ensures.value at c.if-as_bytes-gt-MAX_LINE_BYTES.false in (
      has_text _ _ _ said.0 (rw c.in_ok-text.ensures.text at short) ∙ ap Ok (sym c.in_ok-text.ensures.text),
      c.in_ok-text.ensures.reads c.args.self.now.reader c.args.self.now.lines.line said.0 short ∙ sym (ap newest_said said.0),
      said.1,
      counts_on _ _ _ _ said.0 said.1,
    )
