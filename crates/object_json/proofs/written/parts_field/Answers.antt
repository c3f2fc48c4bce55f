use Rattle.std.proofs.Common.{ℕ, subst}
use Rattle.object_json.specs.Added.{HasAdded, member_tokens}
use Rattle.object_json.specs.Kinds.{blanks}
use Rattle.object_json.proofs.written.parts_field.Goals as goal

pub returns-clause-adds : goal.returns-clause-adds
returns-clause-adds c =
    let P : ℕ → Type 0 = λ n. HasAdded c.args.out.now c.blanks_field.new.out (member_tokens c.args.name.now (blanks n)) in
    subst P c.get.ensures.value c.in_ok-blanks_field.ensures
