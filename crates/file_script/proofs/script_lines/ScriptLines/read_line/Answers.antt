use Rattle.std.proofs.Common.{refl}
use Rattle.std.proofs.lemmas.Result.{err_from_is_err_and}
use Rattle.file_script.proofs.Reading.{fault_comes}
use Rattle.file_script.proofs.script_lines.ScriptLines.read_line.Goals as goal

pub returns-in_err-fed-clause-comes : goal.returns-in_err-fed-clause-comes
returns-in_err-fed-clause-comes g c bytes given has =
    let read = c.in_err-fed.ensures.read in
    let e = err_from_is_err_and c.from_residual.result c.from_residual.ensures.1 in
    (read.0, read.1, rw e.1 (rw e.2 (fault_comes (g.S.Source.left c.args.source.now) c.args.self.now bytes given has c.if-self.false (g.S.Source.left c.read.new.source) (record c.args.self.now { lines = c.read.new.self }) refl read.0 c.in_err-fed.field-0.0 read.3)))
