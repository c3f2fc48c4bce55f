use Rattle.std.proofs.lemmas.Result.{on_ok_weaker}
use Rattle.scenario.proofs.Settling.{finishes}
use Rattle.scenario.proofs.file_runner.FileRunner.finish.Goals as goal

pub returns-clause-plays : goal.returns-clause-plays
returns-clause-plays g c got bytes playing =
    finishes c.play_last-played.result c.flush_after.result got (g.K.Sink.got c.play_last-played.new.sink) (g.K.Sink.got c.flush_after.new.sink)
    (g.K.Sink.waits c.play_last-played.new.sink) (g.K.Sink.waits c.flush_after.new.sink) bytes
    c.flush_after.ensures.fails c.flush_after.ensures.ok (c.flush_after.ensures.ends got) (c.play_last-played.ensures.plays got bytes playing)

pub returns-clause-none : goal.returns-clause-none
returns-clause-none g c = on_ok_weaker c.flush_after.result (λ h. h.1) c.flush_after.ensures.ok

pub returns-clause-cause : goal.returns-clause-cause
returns-clause-cause g c = c.flush_after.ensures.cause (g.K.Sink.faults c.args.sink.now) c.play_last-played.ensures.cause
