use Rattle.load_stage.proofs.stage.set_stage.Goals as goal

pub returns-in-Ok-drafted-clause-stage : goal.returns-in-Ok-drafted-clause-stage
returns-in-Ok-drafted-clause-stage g c = c.begin.ensures c.args.seed c.in-Ok-drafted.ensures
