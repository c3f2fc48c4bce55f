-- A guild is found by its record alone.
use Rattle.std.proofs.Common.{sym, ap, subst, ◌∙◌}
use Rattle.collections.specs.ById.{IsById, has_id}
use Rattle.worker_core.specs.InCode.{KeptWorker, replica_id}
use Rattle.worker_core.proofs.Records.{bare_ascend, has_bare}
use Rattle.worker_core.proofs.worker.Worker.has_replica.Goals as goal

pub returns-clause-found : goal.returns-clause-found
returns-clause-found c =
    let rs = c.self.inside.replicas in
    c.contains.ensures ∙ (ap (λ n. has_id replica_id n rs) c.guild.view_is
    ∙ (sym (has_bare c.args.guild rs) ∙ ap (λ (k : KeptWorker). has_id replica_id c.args.guild k.machine.logs) c.self.view_is))

pub returns-clause-ascend : goal.returns-clause-ascend
returns-clause-ascend c =
    subst (λ (k : KeptWorker). IsById replica_id k.machine.logs) c.self.view_is (bare_ascend c.self.inside.replicas c.as_slice-replicas.ensures.ascending)
