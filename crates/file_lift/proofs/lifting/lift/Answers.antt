use Rattle.file_lift.proofs.lifting.lift.Goals as goal

pub returns-clause-lifts : goal.returns-clause-lifts
returns-clause-lifts g c = c.flush_after.ensures.lifts _ _ _ _ c.lift_lines-lifted.ensures.lifts

pub returns-clause-cause : goal.returns-clause-cause
returns-clause-cause g c = c.flush_after.ensures.cause _ _ _ c.lift_lines-lifted.ensures.cause
