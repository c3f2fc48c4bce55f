use Rattle.std.proofs.Common.{◌≡◌, sym, ap, ◌∙◌, arith}
use Rattle.std.proofs.lemmas.Slice.Eq.{bytes_eq-Decides}
use Rattle.json_view.specs.Reading.{reading}
use Rattle.event_json.specs.Text.{data_of}
use Rattle.event_json.proofs.Whole.{whole_writable}
use Rattle.written_json.proofs.ReadBack.{reading_back}
use Rattle.event_json.proofs.reading.is_of.Goals as goal

pub returns-then-eq-clause-yes : goal.returns-then-eq-clause-yes
returns-then-eq-clause-yes c = λ is.
    let same : c.as_str.result.now ≡ c.args.text.now = (bytes_eq-Decides c.as_str.result.now c.args.text.now).0 (sym c.if-eq.ensures) in
    ap reading (sym same)
    ∙ reading_back c.as_str.result.now (data_of c.args.dispatch.now c.args.number) c.as_str.utf8 (whole_writable c.args.dispatch.now c.args.number c.in_ok-written.ensures.fits (omega arith)) (c.as_str.ensures.value ∙ c.in_ok-written.ensures.text)

pub returns-clause-yes : goal.returns-clause-yes
returns-clause-yes c =
    c.is_read_as.ensures.yes (data_of c.args.dispatch.now c.args.number) (whole_writable c.args.dispatch.now c.args.number c.in_ok-written.ensures.fits (omega arith)) (c.as_str-2.ensures.value ∙ c.in_ok-written.ensures.text)

pub returns-clause-no : goal.returns-clause-no
returns-clause-no c =
    c.is_read_as.ensures.no (data_of c.args.dispatch.now c.args.number) (whole_writable c.args.dispatch.now c.args.number c.in_ok-written.ensures.fits (omega arith)) (c.as_str-2.ensures.value ∙ c.in_ok-written.ensures.text)
