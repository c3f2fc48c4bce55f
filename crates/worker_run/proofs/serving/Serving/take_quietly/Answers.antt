use Rattle.worker_run.specs.Histories.{given_out}
use Rattle.worker_run.proofs.Quiet.{but_wishes}
use Rattle.worker_run.proofs.Silence.{takes_quietly}
use Rattle.worker_run.proofs.serving.Serving.take_quietly.Goals as goal

pub returns-clause-takes : goal.returns-clause-takes
returns-clause-takes g c i given silent =
    let out = c.in_ok-outputs.outputs.items in
    let both = c.in_ok-outputs.ensures.takes i given in (
      given_out (but_wishes out),
      takes_quietly i out c.args.self.now.worker c.take.new.self.worker silent both.0 (g.J.Notes.noted c.args.notes.now) (g.J.Notes.noted c.take.new.notes) both.1,
    )
