-- A copy that is put is its record that is put.
use Rattle.std.proofs.Common.{map, sym, ap, subst, ◌∙◌}
use Rattle.std.specs.Prelude.{IsSome}
use Rattle.collections.specs.ById.{find_id, put_id}
use Rattle.worker_core.specs.InCode.{KeptWorker, bare, replica_id}
use Rattle.worker_core.proofs.Records.{is_found, logs_moved, put_bare}
use Rattle.worker_core.proofs.worker.Worker.put_replica.Goals as goal

pub replace-requires : goal.replace-requires
replace-requires c =
    is_found (replica_id c.args.replica) c.self.inside.replicas
    (subst (λ (k : KeptWorker). IsSome (find_id replica_id (replica_id c.args.replica) k.machine.logs)) (sym c.self.view_is) c.requires)

pub returns : goal.returns
returns c =
    logs_moved _ c.args.self.now c.self.view_is c.replace.new.self (map bare c.replace.new.self) (put_id replica_id (bare c.args.replica))
    (ap (map bare) c.replace.ensures ∙ put_bare c.args.replica c.self.inside.replicas)
