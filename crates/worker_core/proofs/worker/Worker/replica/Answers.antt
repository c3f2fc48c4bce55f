-- A copy is found by its record alone.
use Rattle.std.proofs.Common.{sym, ap, ◌∙◌}
use Rattle.std.specs.Prelude.{option_map}
use Rattle.collections.specs.ById.{find_id}
use Rattle.worker_core.specs.InCode.{KeptWorker, bare, replica_id}
use Rattle.worker_core.proofs.Records.{find_bare}
use Rattle.worker_core.proofs.worker.Worker.replica.Goals as goal

pub returns-clause-found : goal.returns-clause-found
returns-clause-found c =
    let rs = c.self.inside.replicas in
    ap (option_map bare) (c.get.ensures ∙ ap (λ n. find_id replica_id n rs) c.guild.view_is)
    ∙ (sym (find_bare c.args.guild rs) ∙ ap (λ (k : KeptWorker). find_id replica_id c.args.guild k.machine.logs) c.self.view_is)
