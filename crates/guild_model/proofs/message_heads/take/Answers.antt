use Rattle.std.proofs.Common.{sym}
use Rattle.guild_model.proofs.Arrivals.{gone_so, gone_kept}
use Rattle.guild_model.proofs.Indexed.{left, not_there}
use Rattle.guild_model.proofs.message_heads.take.Goals as goal

pub returns-in-Some-clause-heads : goal.returns-in-Some-clause-heads
returns-in-Some-clause-heads c = rw c.pop.ensures.entries (gone_so c.args.id c.args.heads.now.entries c.requires.kept.index)

pub returns-in_default-clause-heads : goal.returns-in_default-clause-heads
returns-in_default-clause-heads c = rw c.pop.ensures.entries (gone_so c.args.id c.args.heads.now.entries c.requires.kept.index)

pub returns-in-Some-clause-kept : goal.returns-in-Some-clause-kept
returns-in-Some-clause-kept c = rw c.pop.ensures.entries (gone_kept c.args.heads.now c.args.id c.requires.kept)

pub returns-in_default-clause-kept : goal.returns-in_default-clause-kept
returns-in_default-clause-kept c = rw c.pop.ensures.entries (gone_kept c.args.heads.now c.args.id c.requires.kept)

pub returns-in-Some-clause-indexed : goal.returns-in-Some-clause-indexed
returns-in-Some-clause-indexed c =
    let leaves = rw c.number.ensures at c.remove.ensures in
    rw c.pop.ensures.entries (left c.args.id c.in-Some.head c.args.heads.now.entries c.args.index.now c.remove.new.self c.requires.kept.index (sym c.in-Some.ensures.value) c.requires.indexed leaves)

pub returns-in_default-clause-indexed : goal.returns-in_default-clause-indexed
returns-in_default-clause-indexed c = rw c.pop.ensures.entries (not_there c.args.id c.args.heads.now.entries c.args.index.now (sym c.in_default.ensures.value) c.requires.indexed)
