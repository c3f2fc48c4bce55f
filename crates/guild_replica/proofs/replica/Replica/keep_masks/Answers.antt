use Rattle.std.proofs.Common.{◌≡◌, ℕ, List, sym, ap, ◌∙◌}
use Rattle.std.specs.Cmp.Lexicographic.{same_text}
use Rattle.guild_replica.specs.Replicas.{GuildCopy}
use Rattle.guild_replica.proofs.replica.Replica.keep_masks.Goals as goal

pub returns-then-eq-clause-ok : goal.returns-then-eq-clause-ok
returns-then-eq-clause-ok c =
    let was : GuildCopy = c.args.self.now in
    let same : c.as_slice.result.now ≡ c.args.users.now = same_text c.as_slice.result.now c.args.users.now (sym (sym c.eq.ensures ∙ c.if-eq.true)) in
    let users : was.users ≡ c.args.users.now = sym (ap (λ (r : GuildCopy). r.users) c.self.view_is) ∙ (sym c.as_slice.ensures.value ∙ same) in
    ap (λ (us : List ℕ). record was { users = us }) users
