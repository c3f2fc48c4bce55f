use Rattle.std.proofs.Common.{sym, ◌∙◌}
use Rattle.guild_model.proofs.Arrivals.{came_as, came_kept}
use Rattle.guild_model.proofs.Indexed.{came, came_full}
use Rattle.guild_model.proofs.message_heads.add.Goals as goal

pub returns-in-Ok-None-clause-ok : goal.returns-in-Ok-None-clause-ok
returns-in-Ok-None-clause-ok c = rw (c.in-Ok-None.ensures.entries, c.number-id.ensures) (came_as c.args.heads.now c.args.head c.requires.kept c.requires.free)

pub returns-in-Ok-Some-clause-ok : goal.returns-in-Ok-Some-clause-ok
returns-in-Ok-Some-clause-ok c = rw (c.in-Ok-Some.ensures.entries, c.number-id.ensures) (came_as c.args.heads.now c.args.head c.requires.kept c.requires.free)

pub returns-in-Ok-None-clause-kept : goal.returns-in-Ok-None-clause-kept
returns-in-Ok-None-clause-kept c = rw (c.in-Ok-None.ensures.entries, c.number-id.ensures) (came_kept c.args.heads.now c.args.head c.requires.kept c.requires.free)

pub returns-in-Ok-Some-clause-kept : goal.returns-in-Ok-Some-clause-kept
returns-in-Ok-Some-clause-kept c = rw (c.in-Ok-Some.ensures.entries, c.number-id.ensures) (came_kept c.args.heads.now c.args.head c.requires.kept c.requires.free)

pub returns-in-Ok-None-clause-indexed : goal.returns-in-Ok-None-clause-indexed
returns-in-Ok-None-clause-indexed c =
    let joins = rw (c.number-channel.ensures, c.number-id.ensures) at c.in_ok-add.ensures.ok in
    let none = rw c.number-id.ensures at c.in-Ok-None.ensures.old in
    rw (c.in-Ok-None.ensures.entries, c.number-id.ensures)
    (came c.args.heads.now c.args.head c.args.index.now c.add.new.self c.requires.kept c.requires.free (sym none ∙ c.in-Ok-None.field-0-is) c.requires.indexed joins)

pub returns-in-Ok-Some-clause-indexed : goal.returns-in-Ok-Some-clause-indexed
returns-in-Ok-Some-clause-indexed c =
    let joins = rw (c.number-channel.ensures, c.number-id.ensures) at c.in_ok-add.ensures.ok in
    let some = rw c.number-id.ensures at c.in-Ok-Some.ensures.old in
    let leaves = rw c.number.ensures at c.remove.ensures in
    rw (c.in-Ok-Some.ensures.entries, c.number-id.ensures)
    (came_full c.args.heads.now c.args.head (c.in-Ok-Some.id, c.in-Ok-Some.oldest) c.args.index.now c.add.new.self c.remove.new.self c.requires.kept c.requires.free (sym some ∙ c.in-Ok-Some.field-0-is) c.requires.indexed joins leaves)
