use Rattle.std.proofs.Common.{ℕ, codes, subst}
use Rattle.object_json.specs.Added.{HasAdded, member_tokens}
use Rattle.object_json.specs.Kinds.{time}
use Rattle.object_json.proofs.message.timestamp_field.Goals as goal

pub returns : goal.returns
returns c =
    let P : ℕ → Type 0 = λ m. HasAdded c.args.out.now c.time_field.new.out (member_tokens (codes "timestamp") (time m)) in
    subst P c.moment_of.ensures c.in_ok-time_field.ensures.adds
