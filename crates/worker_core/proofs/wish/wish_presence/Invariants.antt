use Rattle.std.proofs.Common.{◌≡◌, ◌++◌, take}
use Rattle.std.specs.Prelude.{flat_map}
use Rattle.wishes.specs.Wishes.{presence_wish}
use Rattle.guild_replica.specs.Replicas.{GuildCopy}
use Rattle.worker_core.proofs.wish.wish_presence.Given as goal
use Rattle.worker_core.specs.Outputs.{all_written}
use Rattle.worker_core.specs.InCode.{replica_id}
use Rattle.world_law.specs.Wants.{wished}

abbrev pub invariant-loop-replica : goal.invariant-loop-replica
invariant-loop-replica l = l.out.items ≡ l.fn.out.items ++ all_written (flat_map (λ (r : GuildCopy). wished (replica_id r) (presence_wish r.guild l.viewer l.status)) (take l.replica-index l.replicas))
