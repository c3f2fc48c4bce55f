use Rattle.std.proofs.Common.{sym, ◌∙◌}
use Rattle.snowflake_id.proofs.Texts.{digits_are, empty_text, other_text, parsed_text}
use Rattle.snowflake_id.proofs.Snowflake.parse.Goals as goal

pub returns-then-is_empty : goal.returns-then-is_empty
returns-then-is_empty c = sym (empty_text c.args.text.now (sym c.is_empty.ensures ∙ c.if-is_empty.true))

pub returns-then-not-is_digits : goal.returns-then-not-is_digits
returns-then-not-is_digits c =
    let e = digits_are c.args.text.now in sym (other_text c.args.text.now (cc) (cc))

pub returns-in-Ok : goal.returns-in-Ok
returns-in-Ok c =
    let e = digits_are c.args.text.now in
    rw c.in-Ok.is at (parsed_text c.args.text.now c.parse.result (cc) (cc) c.parse.ensures.value.0)

pub returns-in-Err : goal.returns-in-Err
returns-in-Err c =
    let e = digits_are c.args.text.now in
    rw c.in-Err.is at (parsed_text c.args.text.now c.parse.result (cc) (cc) c.parse.ensures.value.0)
