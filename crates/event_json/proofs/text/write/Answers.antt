use Rattle.std.proofs.Common.{◌∙◌, decimal, append_assoc}
use Rattle.intent_set.specs.Kind.{name_of}
use Rattle.dispatch_types.specs.Kinds.{kind_of}
use Rattle.serde_json.specs.Written.{compact_text}
use Rattle.event_json.specs.Body.{body_data}
use Rattle.event_json.specs.Text.{head_of, tail_of}
use Rattle.event_json.proofs.Frames.{numbered_is}
use Rattle.event_json.proofs.text.write.Goals as goal

pub returns-clause-text : goal.returns-clause-text
returns-clause-text c =
    let d = c.args.of.now in
    rw (c.in_ok-push_tail.ensures, c.in_ok-push_str.ensures.bytes, c.in_ok-text.ensures.text, c.format.ensures.text, c.name.ensures, c.kind.ensures)
    (append_assoc (head_of (compact_text (body_data d))) (decimal c.args.number) (tail_of (name_of (kind_of d))) ∙ numbered_is d c.args.number)
