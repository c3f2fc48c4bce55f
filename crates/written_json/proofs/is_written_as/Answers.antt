use Rattle.std.proofs.Common.{◌≡◌, sym, ap, ◌∙◌, Some, string_bytes}
use Rattle.std.proofs.lemmas.Bool.Decides.{not_from_Decides}
use Rattle.std.proofs.lemmas.Slice.Eq.{bytes_eq-Decides}
use Rattle.serde_json.specs.Read.{read}
use Rattle.serde_json.specs.View.{view}
use Rattle.serde_json.specs.Written.{compact_text, has_float}
use Rattle.written_json.proofs.ReadBack.{text_back, no_float}
use Rattle.written_json.proofs.is_written_as.Goals as goal

pub returns-clause-yes : goal.returns-clause-yes
returns-clause-yes c = λ d w e t.
    let same : c.as_str.result.now ≡ c.args.text.now = (bytes_eq-Decides c.as_str.result.now c.args.text.now).0 (sym c.eq.ensures ∙ t) in
    let found : read (string_bytes c.in_ok-found.found) ≡ Some (view c.args.value.now) = c.in_ok-found.ensures.reads_back c.requires in
    let both : Some (view c.args.value.now) ≡ Some d = sym found ∙ ap read (sym c.as_str.ensures.value ∙ same) ∙ text_back c.args.text.now d w e in
    cc

pub returns-clause-no : goal.returns-clause-no
returns-clause-no c = λ d w e f v.
    not_from_Decides _ (bytes_eq-Decides c.as_str.result.now c.args.text.now) (sym c.eq.ensures ∙ f)
    (c.as_str.ensures.value ∙ c.in_ok-found.ensures.text (ap has_float v ∙ no_float d w.0) ∙ ap compact_text v ∙ sym e)
