use Rattle.std.proofs.Common.{is_some, true, false, ap, sym, ◌∙◌}
use Rattle.fast_float.specs.Text.{scan}
use Rattle.serde_json.specs.Read.{number_of, number_from}
use Rattle.json_view.proofs.Numbers.{with_minus, without_minus, after_minus}
use Rattle.json_view.proofs.number.number_in_range.Goals as goal

pub returns-then-has_minus : goal.returns-then-has_minus
returns-then-has_minus c =
    let s = c.as_bytes-bytes.result.now in
    c.negative_in_range.ensures ∙ ap (λ p. is_some (number_from true p)) (c.scan.ensures.parts ∙ ap scan (after_minus s))
    ∙ ap is_some (sym (with_minus s (sym c.if-has_minus.ensures.value)) ∙ ap number_of c.as_bytes-bytes.ensures.value)

pub returns-else-has_minus : goal.returns-else-has_minus
returns-else-has_minus c =
    let s = c.as_bytes-bytes.result.now in
    c.positive_in_range.ensures ∙ ap (λ p. is_some (number_from false p)) c.scan-else-has_minus.ensures.parts
    ∙ ap is_some (sym (without_minus s (sym c.if-has_minus.ensures.value)) ∙ ap number_of c.as_bytes-bytes.ensures.value)
