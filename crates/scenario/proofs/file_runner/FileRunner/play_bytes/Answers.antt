use Rattle.std.proofs.Common.{◌∙◌}
use Rattle.std.proofs.lemmas.Result.{err_from_is_err_and}
use Rattle.scenario.proofs.Feeding.{fed_line, fed_stops, fed_all, fed_room}
use Rattle.scenario.proofs.file_runner.FileRunner.play_bytes.Goals as goal

pub returns-in_err-end_line-clause-plays : goal.returns-in_err-end_line-clause-plays
returns-in_err-end_line-clause-plays g c got bytes playing =
    let e = err_from_is_err_and c.from_residual.result c.from_residual.ensures.1 in
    rw e.1 (rw e.2 (fed_stops c.args.chunk.now (g.K.Sink.got c.args.sink.now) (g.K.Sink.got c.loop-piece.sink) (g.K.Sink.got c.end_line.new.sink) (g.K.Sink.waits c.args.sink.now) (g.K.Sink.waits c.loop-piece.sink) (g.K.Sink.waits c.end_line.new.sink) c.args.self.now c.loop-piece.self c.loop-piece.rest.now
    c.loop-piece.invariant.fed c.in-Some.piece.now c.in-Some.later.now c.in-Some.ensures.1 c.in_err-end_line.field-0.0 c.in_err-end_line.ensures.plays got bytes playing))

pub loop-piece-preserved : goal.loop-piece-preserved
loop-piece-preserved g c =
    record {
      fed = fed_line c.args.chunk.now (g.K.Sink.got c.args.sink.now) (g.K.Sink.got c.loop-piece.sink) (g.K.Sink.got c.end_line.new.sink) (g.K.Sink.waits c.args.sink.now) (g.K.Sink.waits c.loop-piece.sink) (g.K.Sink.waits c.end_line.new.sink) c.args.self.now c.loop-piece.self c.loop-piece.rest.now
          c.loop-piece.invariant.fed c.in-Some.piece.now c.in-Some.later.now c.in-Some.ensures.1 c.end_line.new.self c.in_ok-end_line.ensures.plays c.in_ok-end_line.ensures.room;
      faults = c.in_ok-end_line.ensures.cause ∙ c.loop-piece.invariant.faults;
    }

pub returns-clause-plays : goal.returns-clause-plays
returns-clause-plays g c =
    fed_all c.args.chunk.now (g.K.Sink.got c.args.sink.now) (g.K.Sink.got c.loop-piece.sink) (g.K.Sink.got c.begin_line.new.sink) (g.K.Sink.waits c.args.sink.now) (g.K.Sink.waits c.loop-piece.sink) (g.K.Sink.waits c.begin_line.new.sink) c.args.self.now c.loop-piece.self c.loop-piece.rest.now
    c.loop-piece.invariant.fed c.begin_line.new.self c.begin_line.result c.begin_line.ensures.plays

pub returns-clause-room : goal.returns-clause-room
returns-clause-room g c =
    fed_room c.args.chunk.now (g.K.Sink.got c.args.sink.now) (g.K.Sink.got c.loop-piece.sink) (g.K.Sink.got c.begin_line.new.sink) (g.K.Sink.waits c.args.sink.now) (g.K.Sink.waits c.loop-piece.sink) (g.K.Sink.waits c.begin_line.new.sink) c.args.self.now c.loop-piece.self c.loop-piece.rest.now
    c.loop-piece.invariant.fed c.begin_line.new.self c.begin_line.result c.begin_line.ensures.room
