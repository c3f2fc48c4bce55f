use Rattle.std.proofs.Common.{◌∙◌, arith}
use Rattle.event_json.specs.Text.{data_of}
use Rattle.event_json.proofs.Whole.{whole_writable}
use Rattle.written_json.proofs.ReadBack.{reading_back}
use Rattle.event_json.proofs.reading.reads_back.Goals as goal

pub returns : goal.returns
returns c =
    let fits = c.in_ok-text.ensures.fits in
    c.read.ensures.each c.args.dispatch.now c.args.number
    (fits, omega arith, reading_back c.as_str.result.now (data_of c.args.dispatch.now c.args.number) c.as_str.utf8 (whole_writable c.args.dispatch.now c.args.number fits (omega arith)) (c.as_str.ensures.value ∙ c.in_ok-text.ensures.text))
