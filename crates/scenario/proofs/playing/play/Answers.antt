use Rattle.std.proofs.lemmas.Result.{err_from_is_err_and}
use Rattle.gate_outside.proofs.Fronts.{carries_part}
use Rattle.scenario.proofs.Plays.{plays_after, plays_none}
use Rattle.scenario.proofs.playing.play.Goals as goal

pub returns-in_err-flush-clause-plays : goal.returns-in_err-flush-clause-plays
returns-in_err-flush-clause-plays g c =
    let e = err_from_is_err_and c.from_residual.result c.from_residual.ensures.1 in
    rw e.1 (rw e.2 (plays_none c.in_err-flush.field-0.0 (g.S.Source.left c.args.source.now) _ _ (g.K.Sink.waits c.args.sink.now) (carries_part _ _ _ _ c.in_err-flush.ensures.err)))

pub returns-clause-plays : goal.returns-clause-plays
returns-clause-plays g c = plays_after _ _ _ (g.K.Sink.waits c.args.sink.now) c.in_ok-flush.ensures.ok _ _ c.play_on.result c.play_on.ensures.plays
