use Rattle.edit_text.proofs.LinesBack.{text_as, reads_back}
use Rattle.edit_text.proofs.line.Line.text.Goals as goal

pub returns-clause-text : goal.returns-clause-text
returns-clause-text c = text_as c.to_string.result _ c.args.self.now c.in_ok-value.ensures.value c.to_string.ensures.text

pub returns-clause-reads_back : goal.returns-clause-reads_back
returns-clause-reads_back c =
    reads_back c.to_string.result _ c.args.self.now c.in_ok-value.ensures.value c.in_ok-value.ensures.fits
    c.to_string.ensures.text c.to_string.ensures.reads_back
