use Rattle.std.proofs.lemmas.Result.{on_err_weaker}
use Rattle.gate_outside.proofs.Fronts.{part_front}
use Rattle.scenario.proofs.writing.write_line.Goals as goal

pub returns-clause-err : goal.returns-clause-err
returns-clause-err g c = on_err_weaker c.write_all.result (part_front _ _ _ _ _) c.write_all.ensures.err
