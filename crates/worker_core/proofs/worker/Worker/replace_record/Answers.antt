-- The copy of a guild that is taken over.
use Rattle.std.proofs.Common.{map, ap, ◌∙◌}
use Rattle.collections.specs.ById.{put_id}
use Rattle.edit_apply.specs.Edits.{state_from}
use Rattle.guild_model.specs.Record.{Record}
use Rattle.guild_replica.specs.Replicas.{GuildCopy}
use Rattle.worker_core.specs.InCode.{bare, replica_id, replica_of}
use Rattle.worker_core.proofs.Records.{logs_moved, put_bare}
use Rattle.worker_core.proofs.worker.Worker.replace_record.Goals as goal

pub returns : goal.returns
returns c =
    let rs = c.self.inside.replicas in
    logs_moved _ c.args.self.now c.self.view_is c.put.new.self (map bare c.put.new.self) (put_id replica_id (replica_of (state_from c.args.basis c.args.entries.now)))
    (ap (map bare) c.in_ok-put.ensures.ok
    ∙ (put_bare c.new.result rs
    ∙ (ap (λ (r : GuildCopy). put_id replica_id (bare r) (map bare rs)) c.new.ensures
    ∙ ap (λ (s : Record). put_id replica_id (replica_of s) (map bare rs)) c.in_ok-apply_each.ensures)))
