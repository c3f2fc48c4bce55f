use Rattle.std.proofs.Common.{drop, false, option_and_then, ap, sym, ◌∙◌}
use Rattle.fast_float.specs.Text.{scan}
use Rattle.serde_json.specs.Find.{as_u64}
use Rattle.serde_json.specs.Read.{number_of, number_from}
use Rattle.json_view.proofs.Numbers.{with_minus, without_minus, negative_not_whole}
use Rattle.json_view.proofs.number.whole_number.Goals as goal

pub returns-then-has_minus : goal.returns-then-has_minus
returns-then-has_minus c =
    let s = c.as_bytes-bytes.result.now in
    sym (negative_not_whole (scan (drop 1 s))) ∙ ap (option_and_then as_u64) (sym (with_minus s (sym c.if-has_minus.ensures.value)) ∙ ap number_of c.as_bytes-bytes.ensures.value)

pub returns-else-has_minus : goal.returns-else-has_minus
returns-else-has_minus c =
    let s = c.as_bytes-bytes.result.now in
    c.whole_from.ensures ∙ ap (λ p. option_and_then as_u64 (number_from false p)) c.scan.ensures.parts
    ∙ ap (option_and_then as_u64) (sym (without_minus s (sym c.if-has_minus.ensures.value)) ∙ ap number_of c.as_bytes-bytes.ensures.value)
