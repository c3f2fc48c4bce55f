use Rattle.std.proofs.Common.{◌≡◌, map, take}
use Rattle.std.specs.Prelude.{filter}
use Rattle.dispatch_types.specs.Serves.{serves}
use Rattle.guild_replica.specs.Replicas.{GuildCopy}
use Rattle.worker_core.proofs.ready.ready_guilds.Given as goal
use Rattle.worker_core.specs.InCode.{replica_id}

abbrev pub invariant-loop-replica : goal.invariant-loop-replica
invariant-loop-replica l = l.ids ≡ map replica_id (filter (λ (r : GuildCopy). serves l.viewer r.guild) (take l.replica-index l.replicas))
