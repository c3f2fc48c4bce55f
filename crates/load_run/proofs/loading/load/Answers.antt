use Rattle.std.proofs.Common.{◌∙◌, length, ap, sym, subst}
use Rattle.load_run.specs.Joined.{HasJoined}
use Rattle.load_run.proofs.Answered.{all_asked, answered}
use Rattle.load_run.proofs.loading.load.Goals as goal

pub play-played-requires-clause-stage : goal.play-played-requires-clause-stage
play-played-requires-clause-stage g c = (c.args.seed, (c.args.clocks.items, c.in-Ok-set_up.ensures.stage))

pub answer-requires : goal.answer-requires
answer-requires g c = λ none.
    let played = c.play-played.result in
    subst (λ posts. HasJoined {C = g.row.C.Denot} {R = g.row.R.Denot} c.args.seed posts played.ends) (sym c.play-played.ensures.posts)
    (c.play-played.ensures.ended c.args.seed c.args.clocks.items c.in-Ok-set_up.ensures.stage none)

pub returns-clause-clocks : goal.returns-clause-clocks
returns-clause-clocks g c = ap (λ clocks. length clocks.items) c.answer.ensures.clocks ∙ c.play-played.ensures.clocks

pub returns-clause-causes : goal.returns-clause-causes
returns-clause-causes g c =
    let played = c.play-played in
    answered c.args.seed (g.S.Spawner.faults c.args.team.now) (g.S.Spawner.faults played.new.team) (g.K.Sink.faults c.args.sink.now) (g.K.Sink.faults c.answer.new.sink)
    played.result.fault c.answer.result.1 (λ f some. played.ensures.cause c.args.seed c.args.clocks.items c.in-Ok-set_up.ensures.stage f some (g.K.Sink.faults c.args.sink.now))
    (λ none. (played.ensures.whole none).0) c.answer.ensures.whole c.answer.ensures.fault

pub returns-clause-starts : goal.returns-clause-starts
returns-clause-starts g c =
    let played = c.play-played in
    record {
      late = played.ensures.late;
      asked = all_asked _ played.result.fault c.answer.result.1 (λ none. (played.ensures.whole none).1) (λ f some. (c.answer.ensures.fault f some).0);
    }
