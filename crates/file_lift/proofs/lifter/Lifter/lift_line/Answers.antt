use Rattle.std.proofs.Common.{refl}
use Rattle.gate_outside.proofs.Fronts.{puts_front}
use Rattle.file_lift.proofs.lifter.Lifter.lift_line.Goals as goal

pub returns-in-Err-Memory-clause-lifts : goal.returns-in-Err-Memory-clause-lifts
returns-in-Err-Memory-clause-lifts g c = puts_front _ _ _ _ refl
