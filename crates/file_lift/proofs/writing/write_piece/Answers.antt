use Rattle.std.proofs.lemmas.Result.{on_err_weaker}
use Rattle.gate_outside.proofs.Fronts.{part_front}
use Rattle.file_lift.proofs.writing.write_piece.Goals as goal

pub returns-clause-err : goal.returns-clause-err
returns-clause-err g c = rw c.as_bytes.ensures.value at (on_err_weaker c.write_all.result (λ h. part_front _ _ _ _ _ h) c.write_all.ensures.err)
