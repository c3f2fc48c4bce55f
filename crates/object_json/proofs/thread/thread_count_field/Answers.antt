use Rattle.std.proofs.Common.{ℕ, codes, subst}
use Rattle.object_json.specs.Added.{HasAdded, member_tokens}
use Rattle.object_json.specs.Kinds.{count}
use Rattle.object_json.proofs.thread.thread_count_field.Goals as goal

pub returns-clause-adds : goal.returns-clause-adds
returns-clause-adds c =
    let P : ℕ → Type 0 = λ n. HasAdded c.args.out.now c.small_field.new.out (member_tokens (codes "member_count") (count n)) in
    subst P c.get.ensures.value c.in_ok-small_field.ensures.adds
