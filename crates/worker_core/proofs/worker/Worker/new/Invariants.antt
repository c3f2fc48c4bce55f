use Rattle.std.proofs.Common.{◌≡◌, [], drop, map}
use Rattle.collections.specs.ById.{put_all}
use Rattle.guild_model.specs.Record.{own_id}
use Rattle.worker_core.specs.InCode.{replica_id}
use Rattle.worker_core.proofs.Moving.{first_replica}
use Rattle.worker_core.proofs.worker.Worker.new.Given as goal

abbrev pub invariant-loop-id : goal.invariant-loop-id
invariant-loop-id l = put_all replica_id l.replicas (map first_replica (drop l.id-index l.guilds)) ≡ map first_replica (put_all own_id [] l.guilds)
