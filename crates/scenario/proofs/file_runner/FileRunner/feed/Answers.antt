use Rattle.std.proofs.Common.{◌++◌}
use Rattle.scenario.proofs.Settling.{feeds, ok_after}
use Rattle.scenario.proofs.file_runner.FileRunner.feed.Goals as goal

pub returns-clause-plays : goal.returns-clause-plays
returns-clause-plays g c got bytes playing =
    feeds c.play_bytes-played.result c.flush_after.result got (g.K.Sink.got c.play_bytes-played.new.sink) (g.K.Sink.got c.flush_after.new.sink)
    (g.K.Sink.waits c.play_bytes-played.new.sink) (g.K.Sink.waits c.flush_after.new.sink) c.play_bytes-played.new.self (bytes ++ c.args.chunk.now)
    c.flush_after.ensures.fails c.flush_after.ensures.ok (c.flush_after.ensures.ends got) (c.play_bytes-played.ensures.plays got bytes playing)

pub returns-clause-room : goal.returns-clause-room
returns-clause-room g c = ok_after c.play_bytes-played.result c.flush_after.result _ c.flush_after.ensures.fails c.play_bytes-played.ensures.room

pub returns-clause-cause : goal.returns-clause-cause
returns-clause-cause g c = c.flush_after.ensures.cause (g.K.Sink.faults c.args.sink.now) c.play_bytes-played.ensures.cause
