use Rattle.std.proofs.Common.{◌∙◌, map, string_bytes, sym, subst, arith}
use Rattle.std.proofs.lemmas.List.{length-map}
use Rattle.serve_run.specs.Parts.{loans_of}
use Rattle.serve_run.specs.Serving.{ServesIfLent, sink_tale, team_tale}
use Rattle.serve_run.proofs.Back.{counts_lent, ran_out, was_lent}
use Rattle.serve_run.proofs.running.run_serve.Goals as goal

pub returns-in_default-clause-serves : goal.returns-in_default-clause-serves
returns-in_default-clause-serves g c =
    ran_out g.row.R.Denot c.args.port c.args.workers c.args.accepts (map string_bytes c.args.files.now)
    (sink_tale (g.H.Out.Sink.got c.args.sink.now) (g.H.Out.Sink.waits c.args.sink.now) (g.H.Out.Sink.faults c.args.sink.now))
    (team_tale (g.T.Spawner.starts c.args.team.now) (g.T.Spawner.faults c.args.team.now)) (g.H.Dial.house_tale c.args.house.now)

pub serve_lent-returned-requires-clause-counts : goal.serve_lent-returned-requires-clause-counts
serve_lent-returned-requires-clause-counts g c =
    let counts = counts_lent g.H.In.Source.left g.H.In.Source.faults g.H.Gate.Door.tale g.H.Gate.Door.faults g.H.Time.Clock.tale g.row.R.Denot c.args.port c.args.workers c.args.accepts (map string_bytes c.args.files.now)
    (g.H.Dial.house_tale c.args.house.now) (g.H.Dial.house_tale c.lend_all.new.house) (g.H.Dial.house_tale c.lend_all.new.house) c.lend_all.new.parts c.in_default-lend_all.ensures.lends in
    let many = length-map c.args.files.now string_bytes in
    record {
      sources = (omega (arith, counts.0, many, c.requires.files.0), omega (arith, counts.0, many, c.requires.files.1));
      doors = (omega (arith, counts.1.0, c.requires.workers.0), omega (arith, counts.1.0, c.requires.workers.1));
      clocks = counts.1.1 ∙ sym counts.1.0;
    }

pub returns-clause-serves : goal.returns-clause-serves
returns-clause-serves g c =
    let files = map string_bytes c.args.files.now in
    let old = g.H.Dial.house_tale c.args.house.now in
    let lent = g.H.Dial.house_tale c.lend_all.new.house in
    let p = c.lend_all.new.parts in
    let back = c.serve_lent-returned.result.returned in
    let ended = c.serve_lent-returned.result.ended in
    let sink0 = sink_tale (g.H.Out.Sink.got c.args.sink.now) (g.H.Out.Sink.waits c.args.sink.now) (g.H.Out.Sink.faults c.args.sink.now) in
    let sink1 = sink_tale (g.H.Out.Sink.got c.serve_lent-returned.new.sink) (g.H.Out.Sink.waits c.serve_lent-returned.new.sink) (g.H.Out.Sink.faults c.serve_lent-returned.new.sink) in
    let team0 = team_tale (g.T.Spawner.starts c.args.team.now) (g.T.Spawner.faults c.args.team.now) in
    let team1 = team_tale (g.T.Spawner.starts c.serve_lent-returned.new.team) (g.T.Spawner.faults c.serve_lent-returned.new.team) in
    let lends = c.in_default-lend_all.ensures.lends in
    let counts = counts_lent g.H.In.Source.left g.H.In.Source.faults g.H.Gate.Door.tale g.H.Gate.Door.faults g.H.Time.Clock.tale g.row.R.Denot c.args.port c.args.workers c.args.accepts files old lent lent p lends in
    was_lent g.H.In.Source.left g.H.In.Source.faults g.H.Gate.Door.tale g.H.Gate.Door.faults g.H.Time.Clock.tale g.row.R.Denot c.args.port c.args.workers c.args.accepts files old lent
    (g.H.Dial.house_tale c.put_back_all-2.new.house) p back sink0 sink1 team0 team1 c.put_back_all-2.ensures.puts ended lends c.serve_lent-returned.ensures.alike
    (λ fresh. subst (λ n. ServesIfLent g.row.R.Denot c.args.port n c.args.accepts sink0 sink1 team0 team1 (map old.contents files) (loans_of g.H.In.Source.left g.H.In.Source.faults g.H.Gate.Door.tale g.H.Gate.Door.faults g.H.Time.Clock.tale back) ended) counts.1.0
    (c.serve_lent-returned.ensures.serves c.args.accepts (map old.contents files) fresh))
