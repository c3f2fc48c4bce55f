use Rattle.std.proofs.Common.{◌≡◌, ◌++◌, ◌∙◌, codes, ap}
use Rattle.std.proofs.lemmas.Str.{IsUtf8-append, IsUtf8-string_bytes}
use Rattle.std.specs.String.{string_vec}
use Rattle.serde_json.proofs.Texts.{print-outline}
use Rattle.serde_json.specs.Written.{compact_text}
use Rattle.event_json.specs.Body.{body_data}
use Rattle.event_json.proofs.text.head_of.Goals as goal

pub from_utf8_unchecked-head-requires : goal.from_utf8_unchecked-head-requires
from_utf8_unchecked-head-requires c =
    (rw (c.into_inner.ensures.items, c.in_ok-write_body.ensures.adds.before, c.new-out.ensures.before, c.into_bytes.ensures.value)
    (IsUtf8-append _ _ (IsUtf8-string_bytes c.push_str.new.self) c.into_inner.ensures.utf8))

pub returns-clause-text : goal.returns-clause-text
returns-clause-text c =
    let bytes : c.into_inner.result.items ≡ codes "{\"d\":" ++ compact_text (body_data c.args.of.now) =
    rw (c.into_inner.ensures.items, c.in_ok-write_body.ensures.adds.tokens, c.in_ok-write_body.ensures.adds.before, c.new-out.ensures.tokens, c.new-out.ensures.before, c.into_bytes.ensures.value, c.in_ok-push_str.ensures.bytes, c.in_ok-begun.ensures.bytes)
    (ap (λ t. codes "{\"d\":" ++ t) (print-outline (body_data c.args.of.now))) in
    let text : string_vec c.from_utf8_unchecked-head.result ≡ c.into_inner.result = c.from_utf8_unchecked-head.ensures.value in
    c.in_ok-push_str-2.ensures.bytes ∙ ap (λ s. s ++ codes ",\"op\":0,\"s\":") (ap (λ v. v.items) text ∙ bytes)
