use Rattle.std.proofs.Common.{◌≡◌, ◌++◌, take}
use Rattle.std.specs.Prelude.{flat_map}
use Rattle.world_law.specs.Greeting.{greeting_of}
use Rattle.guild_replica.specs.Replicas.{GuildCopy}
use Rattle.worker_core.proofs.ready.guild_creates.Given as goal

abbrev pub invariant-loop-replica : goal.invariant-loop-replica
invariant-loop-replica l = l.list.items ≡ l.fn.list.items ++ flat_map (λ (r : GuildCopy). greeting_of l.viewer r.guild) (take l.replica-index l.replicas)
