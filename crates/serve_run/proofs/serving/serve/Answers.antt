use Rattle.std.proofs.Common.{◌≡◌, ◌+◌, ◌∙◌, length, map, string_bytes, Ok, ap, ap₂, sym, subst}
use Rattle.serve_stage.specs.Stages.{IsStage}
use Rattle.serve_run.specs.Lines.{worker_lines}
use Rattle.serve_run.specs.Services.{Service, ascending}
use Rattle.team_run.specs.Teams.{many_more}
use Rattle.serve_run.specs.Causes.{AnswersBy}
use Rattle.serve_run.specs.Ended.{MayHave}
use Rattle.serve_run.specs.Lent.{IsStageOf, TellsLent}
use Rattle.serve_run.specs.Serves.{Serves}
use Rattle.serve_run.specs.Writes.{Tells}
use Rattle.serve_run.proofs.Assembled.{all_joined, stage_of}
use Rattle.serve_run.proofs.Counting.{two_actors, all_scripts, all_workers}
use Rattle.serve_run.proofs.Out.{has_cause}
use Rattle.serve_run.proofs.Told.{many_doors}
use Rattle.serve_run.proofs.serving.serve.Goals as goal

pub answer-ended-requires : goal.answer-ended-requires
answer-ended-requires g c = λ none.
    let played = c.play-posts.result in
    let service = c.args.service in
    let told = c.requires.heads in
    let of = stage_of g.S.Source.left g.S.Source.faults g.D.Door.tale g.D.Door.faults g.C.Clock.tale service.port service.bots.items service.guilds.items c.as_slice.result.now service.lent
    c.in-Ok-set_up.ready.stage c.as_slice.ensures.value c.in-Ok-set_up.ensures.stage told.0 told.1 in (
      told.0,
      all_joined told.0 c.in-Ok-set_up.ready.stage.posts played.posts played.started played.ends.actors.items played.ends.scripts.items played.ends.workers.items played.fault
          c.play-posts.ensures.posts (c.play-posts.ensures.ends told.0 of) c.play-posts.ensures.may none,
    )

-- what is told of what was lent
abbrev Told : (g : _) (c : goal.After-drop-guilds g) → Service → Type 0
Told g c s = TellsLent g.S.Source.left g.S.Source.faults g.D.Door.tale g.D.Door.faults g.C.Clock.tale c.args.service.port c.args.service.bots.items c.args.service.guilds.items c.args.service.lent s

of_stage : (g : _) (c : goal.After-drop-guilds g) (s : Service) → Told g c s → IsStageOf g.S.Source.left g.S.Source.faults g.D.Door.tale g.D.Door.faults g.C.Clock.tale s c.in-Ok-set_up.ready.stage
of_stage g c s tells =
    let service = c.args.service in
    stage_of g.S.Source.left g.S.Source.faults g.D.Door.tale g.D.Door.faults g.C.Clock.tale service.port service.bots.items service.guilds.items c.as_slice.result.now service.lent
    c.in-Ok-set_up.ready.stage c.as_slice.ensures.value c.in-Ok-set_up.ensures.stage s tells

-- the lines of the workers that are told
lines_are : (g : _) (c : goal.After-drop-guilds g) (s : Service) → Told g c s → string_bytes c.in-Ok-set_up.ready.lines ≡ worker_lines s.port (length s.doors)
lines_are g c s tells =
    let service = c.args.service in
    c.in-Ok-set_up.ensures.lines
    ∙ ap (worker_lines service.port) (sym (many_doors g.S.Source.left g.S.Source.faults g.D.Door.tale g.D.Door.faults g.C.Clock.tale service.port service.bots.items service.guilds.items tells.heads service.lent tells.alike))
    ∙ ap (λ (x : Service). worker_lines x.port (length x.doors)) (sym tells.is)

-- how it ended
ended_so : (g : _) (c : goal.After-drop-guilds g) (s : Service) → Told g c s
    → Serves s (g.K.Sink.got c.args.sink.now) (g.K.Sink.got c.answer-ended.new.sink) (g.K.Sink.waits c.args.sink.now) (g.K.Sink.faults c.args.sink.now) (g.K.Sink.faults c.answer-ended.new.sink) c.answer-ended.result
    × AnswersBy c.play-posts.result.fault (g.K.Sink.faults c.args.sink.now) (g.K.Sink.faults c.answer-ended.new.sink) c.answer-ended.result
ended_so g c s tells =
    let played = c.play-posts.result in
    let told = subst (λ lines. Tells lines (g.K.Sink.got c.args.sink.now) (g.K.Sink.got c.play-posts.new.sink) (g.K.Sink.waits c.args.sink.now) (g.K.Sink.waits c.play-posts.new.sink)
    (g.K.Sink.faults c.args.sink.now) (g.K.Sink.faults c.play-posts.new.sink) played.started played.told) (lines_are g c s tells) c.play-posts.ensures.tells in
    c.answer-ended.ensures s (g.K.Sink.got c.args.sink.now) (g.K.Sink.waits c.args.sink.now) (g.K.Sink.faults c.args.sink.now) played.started
    (ap (λ (x : Service). x.guilds) tells.is ∙ sym c.as_slice-2.ensures.value)
    (λ none. all_joined s c.in-Ok-set_up.ready.stage.posts played.posts played.started played.ends.actors.items played.ends.scripts.items played.ends.workers.items played.fault
    c.play-posts.ensures.posts (c.play-posts.ensures.ends s (of_stage g c s tells)) c.play-posts.ensures.may none)
    c.play-posts.ensures.may told

-- the parts were set up from what was lent
is_stage : (g : _) (c : goal.After-drop-guilds g) → IsStage c.args.service.port c.args.service.bots.items (ascending c.args.service.guilds.items) c.args.service.lent c.in-Ok-set_up.ready.stage
is_stage g c = subst (λ guilds. IsStage c.args.service.port c.args.service.bots.items (ascending guilds) c.args.service.lent c.in-Ok-set_up.ready.stage) c.as_slice.ensures.value c.in-Ok-set_up.ensures.stage

pub returns-clause-serves : goal.returns-clause-serves
returns-clause-serves g c = λ s tells. (ended_so g c s tells).0

pub returns-clause-cause : goal.returns-clause-cause
returns-clause-cause g c = λ s tells.
    let played = c.play-posts.result in
    has_cause g.row.R.Denot s (g.T.Spawner.faults c.args.team.now) (g.T.Spawner.faults c.play-posts.new.team) (g.K.Sink.faults c.args.sink.now) (g.K.Sink.faults c.answer-ended.new.sink)
    (map g.S.Source.faults played.ends.returned.sources.items) (map g.D.Door.faults played.ends.returned.doors.items) played.started played.fault
    (record {
      posts = c.in-Ok-set_up.ready.stage.posts;
      actors = played.ends.actors.items;
      scripts = played.ends.scripts.items;
      workers = played.ends.workers.items;
      ends = c.play-posts.ensures.ends s (of_stage g c s tells);
    })
    c.play-posts.ensures.may c.play-posts.ensures.starts.sound c.play-posts.ensures.starts.rose (c.play-posts.ensures.shows s (of_stage g c s tells)) c.answer-ended.result (ended_so g c s tells).1

pub returns-clause-starts : goal.returns-clause-starts
returns-clause-starts g c =
    let played = c.play-posts.result in
    let service = c.args.service in
    let stage = c.in-Ok-set_up.ready.stage in
    let guilds = ascending service.guilds.items in
    let is = is_stage g c in
    let count = ap₂ (λ a b. a + b) (two_actors service.port service.bots.items guilds service.lent stage is)
    (ap₂ (λ a b. a + b) (all_scripts service.port service.bots.items guilds service.lent stage is) (all_workers service.port service.bots.items guilds service.lent stage is)) in
    record {
      late = c.play-posts.ensures.starts.late;
      asked = λ ok.
          let by = subst (AnswersBy played.fault (g.K.Sink.faults c.args.sink.now) (g.K.Sink.faults c.answer-ended.new.sink)) ok (ended_so g c c.requires.heads.0 c.requires.heads.1).1 in
          c.play-posts.ensures.starts.asked (subst (λ f. MayHave played.started f) by.0 c.play-posts.ensures.may) ∙ ap (λ n. many_more n (g.T.Spawner.starts c.args.team.now).asked) count;
    }

pub returns-clause-returned : goal.returns-clause-returned
returns-clause-returned g c = c.play-posts.ensures.returned c.args.service.port c.args.service.bots.items (ascending c.args.service.guilds.items) c.args.service.lent c.requires.counts (is_stage g c)
