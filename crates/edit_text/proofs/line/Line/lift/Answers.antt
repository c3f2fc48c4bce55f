use Rattle.edit_text.proofs.AllowedReads.{allowed_if_read, lifted_allowed, lifted_noted}
use Rattle.edit_text.proofs.line.Line.lift.Goals as goal

pub returns-clause-allowed : goal.returns-clause-allowed
returns-clause-allowed c reader bytes is =
    rw c.newest.ensures (lifted_allowed reader c.args.self (allowed_if_read reader bytes c.args.self is))

pub returns-clause-kept : goal.returns-clause-kept
returns-clause-kept c reader = rw c.newest.ensures (lifted_noted c.args.self reader)
