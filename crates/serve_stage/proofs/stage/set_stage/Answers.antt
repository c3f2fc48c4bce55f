use Rattle.std.proofs.Common.{length, subst}
use Rattle.serve_stage.specs.Drafts.{IsDraft}
use Rattle.serve_stage.proofs.stage.set_stage.Goals as goal

pub returns-in-Ok-drafted-clause-stage : goal.returns-in-Ok-drafted-clause-stage
returns-in-Ok-drafted-clause-stage g c =
    let port = c.args.port in
    let bots = c.args.declared.now.bots.items in
    let guilds = c.args.declared.now.guilds.items in
    let draft = c.in-Ok-drafted.draft in
    let counts = c.counts-counts.ensures in
    c.begin.ensures port bots guilds
    (subst (λ k. IsDraft port bots guilds (length c.args.lent.files.items) k draft) counts.1
    (subst (λ k. IsDraft port bots guilds k c.counts-counts.result.workers draft) counts.0 c.in-Ok-drafted.ensures))
