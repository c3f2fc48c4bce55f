use Rattle.std.proofs.Common.{◌≡◌, ◌<◌, ◌++◌, length, refl, arith}
use Rattle.std.proofs.lemmas.Grind.{common_steps}
use Rattle.std.proofs.lemmas.Result.{err_from_is_err_and}
use Rattle.file_lines.specs.Lines.{whole_lines}
use Rattle.scenario.specs.Transcript.{server_of}
use Rattle.scenario.proofs.Bytes.{part_played, long_plays, memory_stops}
use Rattle.scenario.proofs.file_runner.FileRunner.begin_line.Goals as goal

pub returns-in_err-extend_from_slice-clause-plays : goal.returns-in_err-extend_from_slice-clause-plays
returns-in_err-extend_from_slice-clause-plays g c got bytes playing =
    let e = err_from_is_err_and c.from_residual.result c.from_residual.ensures.1 in
    rw e.1 (rw e.2 (memory_stops got (g.K.Sink.got c.args.sink.now) (g.K.Sink.got c.args.sink.now) (g.K.Sink.waits c.args.sink.now) (g.K.Sink.waits c.args.sink.now) c.args.self.now bytes playing c.args.piece.now refl))

pub returns-then-len-gt-MAX_LINE_BYTES-clause-plays : goal.returns-then-len-gt-MAX_LINE_BYTES-clause-plays
returns-then-len-gt-MAX_LINE_BYTES-clause-plays g c got bytes playing =
    let is : c.extend_from_slice.new.self.items ≡ c.args.self.now.part.items ++ c.args.piece.now = grind (arith, common_steps) in
    let long : 65536 < length c.extend_from_slice.new.self.items = grind (arith, common_steps) in
    long_plays got (g.K.Sink.got c.args.sink.now) (g.K.Sink.got c.end_part.new.sink) (g.K.Sink.waits c.args.sink.now) (g.K.Sink.waits c.end_part.new.sink) c.args.self.now bytes playing c.args.piece.now c.extend_from_slice.new.self.items c.requires is long
    c.end_part.result c.end_part.new.self (c.end_part.ensures.runs (server_of (whole_lines bytes)) playing.represents)

pub returns-clause-plays : goal.returns-clause-plays
returns-clause-plays g c got bytes playing =
    let is : c.extend_from_slice.new.self.items ≡ c.args.self.now.part.items ++ c.args.piece.now = grind (arith, common_steps) in
    part_played got (g.K.Sink.got c.args.sink.now) (g.K.Sink.got c.args.sink.now) (g.K.Sink.waits c.args.sink.now) (g.K.Sink.waits c.args.sink.now) c.args.self.now bytes playing c.args.piece.now c.requires (record c.args.self.now { part = c.extend_from_slice.new.self }) refl is refl refl refl
