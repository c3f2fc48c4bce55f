use Rattle.std.proofs.Common.{refl, sym, ◌∙◌}
use Rattle.guild_model.specs.Heads.{with_mentions}
use Rattle.guild_model.proofs.Arrivals.{set_so, set_kept, its_id, unset, found_so}
use Rattle.guild_model.proofs.Indexed.{set_indexed}
use Rattle.guild_model.proofs.message_heads.mention.Goals as goal

pub returns-in-Some-clause-heads : goal.returns-in-Some-clause-heads
returns-in-Some-clause-heads c =
    let found = rw c.id.view_is at c.in-Some.ensures.value in
    rw c.id.view_is (set_so c.args.id (with_mentions c.args.mentions) c.in-Some.head.now c.args.heads.now.entries c.requires.index (sym found))

pub returns-in-Some-clause-kept : goal.returns-in-Some-clause-kept
returns-in-Some-clause-kept c =
    let found = rw c.id.view_is at c.in-Some.ensures.value in
    rw c.id.view_is (set_kept c.args.heads.now c.args.id _ (its_id c.args.id c.in-Some.head.now c.args.heads.now.entries c.requires.index (sym found)) c.requires)

pub returns-in_default-clause-heads : goal.returns-in_default-clause-heads
returns-in_default-clause-heads c =
    let none = rw c.id.view_is at c.in_default.ensures.value in
    sym (unset c.args.id (with_mentions c.args.mentions) _ (sym (found_so c.args.id c.args.heads.now.entries c.requires.index) ∙ sym none))

pub returns-in-Some-clause-indexed : goal.returns-in-Some-clause-indexed
returns-in-Some-clause-indexed c =
    let found = rw c.id.view_is at c.in-Some.ensures.value in
    λ ps indexed. rw c.id.view_is (set_indexed c.args.id c.in-Some.head.now (with_mentions c.args.mentions c.in-Some.head.now) c.args.heads.now.entries ps (sym found) refl indexed)
