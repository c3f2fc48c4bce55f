-- A copy is taken out, and an empty one is there instead.
use Rattle.std.proofs.Common.{◌≡◌, Some, map, sym, ap, ◌∙◌}
use Rattle.std.specs.Prelude.{option_map}
use Rattle.collections.specs.ById.{find_id, has_id, put_id}
use Rattle.guild_model.specs.Record.{Record, closed}
use Rattle.guild_replica.specs.Replicas.{GuildCopy}
use Rattle.worker_core.specs.InCode.{KeptWorker, bare, replica_id, replica_of}
use Rattle.worker_core.proofs.Records.{find_bare, is_found, logs_moved, put_bare}
use Rattle.worker_core.proofs.worker.Worker.take_replica.Goals as goal

pub exchange-requires : goal.exchange-requires
exchange-requires c =
    let rs = c.self.inside.replicas in
    let own : c.new-empty.result.guild.id ≡ c.args.guild = ap (λ (r : GuildCopy). r.guild.id) c.new-empty.ensures ∙ ap (λ (s : Record). s.id) c.closed.ensures in
    ap (λ n. has_id replica_id n rs) own
    ∙ is_found c.args.guild rs
    (ap (λ (k : KeptWorker). has_id replica_id c.args.guild k.machine.logs) c.self.view_is ∙ (sym c.has_replica.ensures.found ∙ c.if-not-has_replica.false))

pub returns-clause-found : goal.returns-clause-found
returns-clause-found c =
    let rs = c.self.inside.replicas in
    let own : c.new-empty.result.guild.id ≡ c.args.guild = ap (λ (r : GuildCopy). r.guild.id) c.new-empty.ensures ∙ ap (λ (s : Record). s.id) c.closed.ensures in
    let there : find_id replica_id c.args.guild rs ≡ Some c.exchange.result = ap (λ n. find_id replica_id n rs) (sym own) ∙ c.exchange.ensures.given in
    sym (ap (option_map bare) there) ∙ (sym (find_bare c.args.guild rs) ∙ ap (λ (k : KeptWorker). find_id replica_id c.args.guild k.machine.logs) c.self.view_is)

pub returns-clause-taken : goal.returns-clause-taken
returns-clause-taken c r is =
    let rs = c.self.inside.replicas in
    logs_moved _ c.args.self.now c.self.view_is c.exchange.new.self (map bare c.exchange.new.self) (put_id replica_id (replica_of (closed c.args.guild)))
    (ap (map bare) c.exchange.ensures.set
    ∙ (put_bare c.new-empty.result rs
    ∙ (ap (λ (e : GuildCopy). put_id replica_id (bare e) (map bare rs)) c.new-empty.ensures
    ∙ ap (λ (s : Record). put_id replica_id (replica_of s) (map bare rs)) c.closed.ensures)))
