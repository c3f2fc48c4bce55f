-- The first worker of the model.
use Rattle.std.proofs.Common.{◌≡◌, [], map, drop, refl, sym, ap, ◌∙◌, arith}
use Rattle.collections.specs.ById.{put_all}
use Rattle.guild_model.specs.Record.{own_id}
use Rattle.worker_core.specs.InCode.{replica_id, guild_of}
use Rattle.replay_ring.specs.Replay.{Replay}
use Rattle.session_core.specs.State.{State}
use Rattle.worker_core.specs.Masks.{keep_masks}
use Rattle.worker_core.proofs.Counting.{nothing_past}
use Rattle.worker_core.proofs.Masks.{no_session}
use Rattle.worker_core.proofs.Moving.{first_replica, first_all, first_records, ids_ascend, no_more}
use Rattle.worker_core.proofs.Records.{bare_guilds}
use Rattle.worker_core.proofs.worker.Worker.new.Goals as goal

pub loop-id-init : goal.loop-id-init
loop-id-init c = ap (λ rs. put_all replica_id rs (map first_replica c.args.guilds.now)) c.new-replicas.ensures ∙ first_all c.args.guilds.now []

pub returns : goal.returns
returns c = record {
  goes_on = refl;
  keeps = ap (λ (s : State Replay). keep_masks c.loop-id.replicas s.sessions) c.new-2.ensures ∙ no_session c.loop-id.replicas;
  past = nothing_past;
  machine = record {
    url = refl;
    now = refl;
    chunks = refl;
    guilds = ids_ascend c.args.guilds.now;
    records =
        let done : drop c.loop-id.id-index c.args.guilds.now ≡ [] = no_more c.args.guilds.now c.loop-id.id-index (omega arith) in
        bare_guilds c.loop-id.replicas
        ∙ (ap (map guild_of) (ap (λ gs. put_all replica_id c.loop-id.replicas (map first_replica gs)) (sym done) ∙ c.loop-id.invariant)
        ∙ first_records (put_all own_id [] c.args.guilds.now));
    core = c.new-2.ensures;
  };
}
