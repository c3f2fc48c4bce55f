use Rattle.std.proofs.Common.{◌++◌, List, ℕ, subst}
use Rattle.client_session.specs.State.{ClientState}
use Rattle.client_cache.specs.Cached.{Cached}
use Rattle.client_run.specs.declared.target.Target.TheVariants.{First}
use Rattle.client_run.specs.Drives.{Drives, Folds, outside, seen}
use Rattle.client_run.specs.Watched.{WatchTale}
use Rattle.client_follow.specs.Follows.{Says, around, sink_tale, client_of}
use Rattle.client_follow.specs.Watching.{Ends}
use Rattle.client_follow.proofs.Written.{follows, begins, told_by}
use Rattle.client_follow.proofs.client.follow.Goals as goal

pub returns-clause-follows : goal.returns-clause-follows
returns-clause-follows g c =
    let f = c.args.following in
    let sink0 = sink_tale (g.K.Sink.got c.args.sink.now) (g.K.Sink.waits c.args.sink.now) (g.K.Sink.faults c.args.sink.now) in
    let sink2 = sink_tale (g.K.Sink.got c.end.new.sink) (g.K.Sink.waits c.end.new.sink) (g.K.Sink.faults c.end.new.sink) in
    let watch = c.drive-ended.new.watch in
    let out = c.drive-ended.new.out in
    let mid = sink_tale (g.K.Sink.got out) (g.K.Sink.waits out ++ watch.waiting.items) (g.K.Sink.faults out) in
    let d0 = g.D.Dial.tale c.args.dial.now in
    let d1 = g.D.Dial.tale c.drive-ended.new.dial in
    let t0 = g.C.Clock.tale c.args.clock.now in
    let t1 = g.C.Clock.tale c.drive-ended.new.clock in
    let client = c.drive-ended.new.client in
    let ended = c.drive-ended.result in
    let told = told_by watch.asked watch.count watch.failed mid in
    let did = c.drive-ended.ensures.drives in
    let vs = did.0 in
    let begun = told_by c.new-watch.result.asked c.new-watch.result.count c.new-watch.result.failed (sink_tale sink0.got (sink0.waits ++ c.new-watch.result.waiting.items) sink0.faults) in
    let start = begins c.new-watch.result.asked f.count c.new-watch.result.count c.new-watch.result.failed c.new-watch.result.waiting.items sink0 c.new-watch.ensures.asked c.new-watch.ensures.count c.new-watch.ensures.failed c.new-watch.ensures.waiting in
    let drives =
    subst (λ (t : WatchTale). Drives f.url First vs (outside (client_of f) d0 (seen t0 t)) (outside client d1 (seen t1 told)) ended) start
    (subst (λ (s : ClientState Cached). Drives f.url First vs (outside s d0 (seen t0 begun)) (outside client d1 (seen t1 told)) ended) c.new-client.ensures
    (subst (λ (url : List ℕ). Drives url First vs (outside c.new-client.result d0 (seen t0 begun)) (outside client d1 (seen t1 told)) ended) c.as_str.ensures did.1.0)) in
    let folds = subst (λ (s : ClientState Cached). Folds s vs client) c.new-client.ensures did.1.1.0 in
    let ends = subst (λ (kept : Cached). (said : List ℕ) × Says kept ended said × Ends ended said mid sink2 c.end.result) c.cache.ensures c.end.ensures in
    (vs, follows f vs (around d0 t0 sink0) (around d1 t1 sink2) client watch.asked watch.count watch.failed watch.waiting.items mid ended c.end.result drives folds c.drive-ended.ensures.tells ends)
