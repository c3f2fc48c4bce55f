-- A look.
use Rattle.std.proofs.Common.{◌≡◌, List, refl, sym, ap, subst, ◌∙◌}
use Rattle.std.proofs.lemmas.Result.{err_from_is_err_and}
use Rattle.std.specs.Prelude.{IsSome, option_map}
use Rattle.collections.specs.ById.{find_id, put_id}
use Rattle.world_law.specs.Keeping.{with_sessions}
use Rattle.world_law.specs.Inputs.{Look}
use Rattle.guild_replica.specs.Replicas.{GuildCopy}
use Rattle.worker_core.specs.declared.io.StepFault.{StepFault}
use Rattle.worker_core.specs.InCode.{KeptWorker, bare, replica_id, replica_of}
use Rattle.worker_core.specs.Looked.{kept_looked}
use Rattle.worker_core.specs.Represents.{TakesNot}
use Rattle.worker_core.proofs.Moving.{look_made, look_fails, look_past, live_at, is_there, empty}
use Rattle.worker_core.proofs.worker.Worker.look.Goals as goal

pub returns-in_default : goal.returns-in_default
returns-in_default c =
    look_past c.args.self.now c.args.guild c.args.entries.now c.take_replica.new.self c.new.result.items (sym c.take_replica.ensures.found ∙ ap (option_map bare) c.in_default.is) (c.in_default.ensures.none refl) c.new.ensures.items

pub returns-in_err-out : goal.returns-in_err-out
returns-in_err-out c =
    let k : KeptWorker = c.args.self.now in
    let r : GuildCopy = c.in-Some.replica in
    let one = c.take_replica.ensures.taken r c.in-Some.is in
    let p = err_from_is_err_and c.from_residual.result c.from_residual.ensures.1 in
    rw p.1 (subst (λ (f : StepFault). TakesNot k (Look c.args.guild c.args.entries.now) f) (sym p.2)
    (look_fails k c.args.guild c.args.entries.now r (sym c.take_replica.ensures.found ∙ ap (option_map bare) c.in-Some.is) (live_at k c.take_replica.new.self _ one c.follow.ensures.live)
    c.take_replica.new.self c.in_err-out.field-0.0 one c.in_err-out.ensures.spent))

pub put_replica-requires : goal.put_replica-requires
put_replica-requires c =
    let k : KeptWorker = c.args.self.now in
    let r : GuildCopy = c.in-Some.replica in
    let there = is_there k.machine c.args.guild c.args.entries.now r (sym c.take_replica.ensures.found ∙ ap (option_map bare) c.in-Some.is) (bare c.follow.new.replica) (ap replica_of c.in_ok-out.ensures.guild) in
    let logs : c.follow.new.self.machine.logs ≡ put_id replica_id (empty c.args.guild) k.machine.logs =
    ap (λ (h : KeptWorker). h.machine.logs)
    (c.in_ok-out.ensures.core
    ∙ ap (λ (h : KeptWorker). record h { machine = record h.machine { core = with_sessions (kept_looked r.guild c.args.entries.now h.machine.core.sessions) h.machine.core } }) (c.take_replica.ensures.taken r c.in-Some.is)) in
    subst (λ (rs : List GuildCopy). IsSome (find_id replica_id (replica_id (bare c.follow.new.replica)) rs)) (sym logs) there

pub returns : goal.returns
returns c =
    let k : KeptWorker = c.args.self.now in
    let r : GuildCopy = c.in-Some.replica in
    let one = c.take_replica.ensures.taken r c.in-Some.is in
    look_made k c.args.guild c.args.entries.now r (sym c.take_replica.ensures.found ∙ ap (option_map bare) c.in-Some.is) (live_at k c.take_replica.new.self _ one c.follow.ensures.live)
    c.take_replica.new.self c.follow.new.self c.put_replica.new.self _ c.in_ok-out.out.items c.take_replica.ensures.ascend
    one c.in_ok-out.ensures.core c.put_replica.ensures (ap replica_of c.in_ok-out.ensures.guild) c.in_ok-out.ensures.out c.in_ok-out.ensures.spent
