use Rattle.std.proofs.Common.{◌≡◌, [], ◌∷◌, ◌++◌, refl, sym, ap, ◌∙◌, arith}
use Rattle.std.proofs.lemmas.Grind.{common_steps}
use Rattle.std.proofs.lemmas.Result.{err_from_is_err_and}
use Rattle.file_lines.specs.Lines.{whole_lines}
use Rattle.scenario.specs.Transcript.{server_of}
use Rattle.scenario.proofs.Bytes.{line_plays, memory_stops}
use Rattle.scenario.proofs.Runs.{ok_always}
use Rattle.scenario.proofs.file_runner.FileRunner.end_line.Goals as goal

pub returns-in_err-extend_from_slice-clause-plays : goal.returns-in_err-extend_from_slice-clause-plays
returns-in_err-extend_from_slice-clause-plays g c got bytes playing =
    let e = err_from_is_err_and c.from_residual.result c.from_residual.ensures.1 in
    rw e.1 (rw e.2 (memory_stops got (g.K.Sink.got c.args.sink.now) (g.K.Sink.got c.args.sink.now) (g.K.Sink.waits c.args.sink.now) (g.K.Sink.waits c.args.sink.now) c.args.self.now bytes playing (c.args.piece.now ++ 10 ∷ []) refl))

pub returns-then-not-is_empty-clause-plays : goal.returns-then-not-is_empty-clause-plays
returns-then-not-is_empty-clause-plays g c got bytes playing =
    let is : c.extend_from_slice.new.self.items ≡ c.args.self.now.part.items ++ c.args.piece.now = grind (arith, common_steps) in
    line_plays got (g.K.Sink.got c.args.sink.now) (g.K.Sink.got c.end_part.new.sink) (g.K.Sink.waits c.args.sink.now) (g.K.Sink.waits c.end_part.new.sink) c.args.self.now bytes playing c.args.piece.now c.extend_from_slice.new.self.items c.requires is
    c.end_part.result c.end_part.new.self c.end_part.ensures.reader c.end_part.ensures.part (c.end_part.ensures.runs (server_of (whole_lines bytes)) playing.represents)

pub returns-clause-plays : goal.returns-clause-plays
returns-clause-plays g c got bytes playing =
    let empty : c.args.self.now.part.items ≡ [] = grind (arith, common_steps) in
    let is : c.args.piece.now ≡ c.args.self.now.part.items ++ c.args.piece.now = ap (λ l. l ++ c.args.piece.now) (sym empty) in
    line_plays got (g.K.Sink.got c.args.sink.now) (g.K.Sink.got c.run_line.new.sink) (g.K.Sink.waits c.args.sink.now) (g.K.Sink.waits c.run_line.new.sink) c.args.self.now bytes playing c.args.piece.now c.args.piece.now c.requires is
    c.run_line.result c.run_line.new.self c.run_line.ensures.reader (ok_always c.run_line.result _ (ap (λ (v : _). v.items) c.run_line.ensures.part ∙ empty)) (c.run_line.ensures.runs (server_of (whole_lines bytes)) playing.represents)
