use Rattle.std.proofs.Common.{◌≡◌, [], length, sym, ap, ◌∙◌, arith}
use Rattle.std.proofs.lemmas.Grind.{common_steps}
use Rattle.file_lines.specs.Lines.{whole_lines}
use Rattle.scenario.specs.Transcript.{server_of}
use Rattle.scenario.proofs.Bytes.{nothing_left, end_plays}
use Rattle.scenario.proofs.file_runner.FileRunner.play_last.Goals as goal

pub returns-then-is_empty-clause-plays : goal.returns-then-is_empty-clause-plays
returns-then-is_empty-clause-plays g c got bytes playing =
    let empty : c.args.self.now.part.items ≡ [] = grind (arith, common_steps) in
    nothing_left got (g.K.Sink.got c.args.sink.now) (g.K.Sink.got c.args.sink.now) (g.K.Sink.waits c.args.sink.now) (g.K.Sink.waits c.args.sink.now) c.args.self.now bytes playing (sym playing.part ∙ empty)

pub returns-clause-plays : goal.returns-clause-plays
returns-clause-plays g c got bytes playing =
    let some : ¬ (c.args.self.now.part.items ≡ []) = λ e. (let none : length c.args.self.now.part.items ≡ 0 = ap length e in grind (arith, common_steps, none)) in
    end_plays got (g.K.Sink.got c.args.sink.now) (g.K.Sink.got c.end_part.new.sink) (g.K.Sink.waits c.args.sink.now) (g.K.Sink.waits c.end_part.new.sink) c.args.self.now bytes playing c.end_part.result c.end_part.new.self some
    (c.end_part.ensures.runs (server_of (whole_lines bytes)) playing.represents)
