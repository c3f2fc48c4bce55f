use Rattle.std.proofs.Common.{◌∙◌, length, refl, ap, arith}
use Rattle.serve_stage.specs.declared.lent.Lent.{Lent}
use Rattle.serve_run.specs.Serving.{sink_tale, team_tale}
use Rattle.serve_run.proofs.Served.{many_read, some_told, served_all, served_none}
use Rattle.serve_run.proofs.serving_lent.serve_lent.Goals as goal

pub serve-requires-clause-counts : goal.serve-requires-clause-counts
serve-requires-clause-counts g c =
    let many = many_read g.S.Source.left g.S.Source.faults c.args.parts.sources.items c.in-Ok.field-0.files.items c.in-Ok.field-0.bots.items c.in-Ok.field-0.guilds.items c.in-Ok.ensures.heads in
    record {
      files = (omega (arith, many, c.requires.counts.sources.0), omega (arith, many, c.requires.counts.sources.1));
      doors = c.requires.counts.doors;
      clocks = c.requires.counts.clocks;
    }

pub serve-requires-clause-heads : goal.serve-requires-clause-heads
serve-requires-clause-heads g c =
    let read = c.in-Ok.field-0 in
    some_told g.S.Source.left g.S.Source.faults g.D.Door.tale g.D.Door.faults g.C.Clock.tale c.args.port c.args.parts.sources.items read.bots.items read.guilds.items
    (record { files = read.files; doors = c.args.parts.doors; clocks = c.args.parts.clocks }) c.in-Ok.ensures.heads

pub unserved-requires-clause-room : goal.unserved-requires-clause-room
unserved-requires-clause-room g c =
    let many = many_read g.S.Source.left g.S.Source.faults c.args.parts.sources.items c.in-Ok.field-0.files.items c.in-Ok.field-0.bots.items c.in-Ok.field-0.guilds.items c.in-Ok.ensures.heads in
    omega (arith, many, c.requires.room, ap (λ (lent : Lent g.row.S.Denot g.row.D.Denot g.row.C.Denot). length lent.files.items) c.in-Err-serve.ensures.lent)

pub returns-in-Ok-serve : goal.returns-in-Ok-serve
returns-in-Ok-serve g c =
    let read = c.in-Ok.field-0 in
    let lent : Lent g.row.S.Denot g.row.D.Denot g.row.C.Denot = record { files = read.files; doors = c.args.parts.doors; clocks = c.args.parts.clocks } in
    let served = c.in-Ok-serve.served in
    let ensures = c.in-Ok-serve.ensures in
    served_all g.S.Source.left g.S.Source.faults g.D.Door.tale g.D.Door.faults g.C.Clock.tale g.row.R.Denot c.args.port c.args.parts read.bots.items read.guilds.items lent c.in-Ok.ensures.heads refl refl served.returned
    (sink_tale (g.K.Sink.got c.args.sink.now) (g.K.Sink.waits c.args.sink.now) (g.K.Sink.faults c.args.sink.now))
    (sink_tale (g.K.Sink.got c.serve.new.sink) (g.K.Sink.waits c.serve.new.sink) (g.K.Sink.faults c.serve.new.sink))
    (team_tale (g.T.Spawner.starts c.args.team.now) (g.T.Spawner.faults c.args.team.now))
    (team_tale (g.T.Spawner.starts c.serve.new.team) (g.T.Spawner.faults c.serve.new.team))
    served.ended c.requires.counts.clocks ensures.returned ensures.serves ensures.cause ensures.starts

pub returns-in-Err-serve : goal.returns-in-Err-serve
returns-in-Err-serve g c =
    let many = many_read g.S.Source.left g.S.Source.faults c.args.parts.sources.items c.in-Ok.field-0.files.items c.in-Ok.field-0.bots.items c.in-Ok.field-0.guilds.items c.in-Ok.ensures.heads in
    let lent = c.in-Err-serve.lent in
    let same = c.in-Err-serve.ensures.lent in
    served_none g.S.Source.left g.S.Source.faults g.D.Door.tale g.D.Door.faults g.C.Clock.tale g.row.R.Denot c.args.port c.args.parts c.unserved.result.returned
    (sink_tale (g.K.Sink.got c.args.sink.now) (g.K.Sink.waits c.args.sink.now) (g.K.Sink.faults c.args.sink.now))
    (sink_tale (g.K.Sink.got c.serve.new.sink) (g.K.Sink.waits c.serve.new.sink) (g.K.Sink.faults c.serve.new.sink))
    (team_tale (g.T.Spawner.starts c.args.team.now) (g.T.Spawner.faults c.args.team.now))
    (team_tale (g.T.Spawner.starts c.serve.new.team) (g.T.Spawner.faults c.serve.new.team))
    c.unserved.result.ended
    (record {
      sources = c.unserved.ensures.sources ∙ (ap (λ (lent : Lent g.row.S.Denot g.row.D.Denot g.row.C.Denot). length lent.files.items) same ∙ many);
      doors = ap (λ ds. length ds.items) (c.unserved.ensures.doors ∙ ap (λ (lent : Lent g.row.S.Denot g.row.D.Denot g.row.C.Denot). lent.doors) same);
      clocks = ap (λ cs. length cs.items) (c.unserved.ensures.clocks ∙ ap (λ (lent : Lent g.row.S.Denot g.row.D.Denot g.row.C.Denot). lent.clocks) same);
    })
    c.unserved.ensures.ended
    (ap (λ k. sink_tale (g.K.Sink.got k) (g.K.Sink.waits k) (g.K.Sink.faults k)) c.in-Err-serve.ensures.sink)
    (ap (λ t. team_tale (g.T.Spawner.starts t) (g.T.Spawner.faults t)) c.in-Err-serve.ensures.team)
