-- A status is wished in each guild.
use Rattle.std.proofs.Common.{◌≡◌, ◌++◌, refl, sym, ap, subst, ◌∙◌}
use Rattle.std.specs.Prelude.{OnOk, flat_map}
use Rattle.wishes.specs.Wishes.{presence_wish}
use Rattle.world_law.specs.Wants.{wished}
use Rattle.guild_replica.specs.Replicas.{GuildCopy}
use Rattle.worker_core.specs.InCode.{replica_id}
use Rattle.worker_core.specs.Outputs.{all_written}
use Rattle.worker_core.proofs.Records.{of_bare}
use Rattle.worker_core.proofs.worker.Worker.wish_presence.Goals as goal
use Rattle.worker_core.proofs.Wanting.{sets, when_ok}

pub returns-in-Some : goal.returns-in-Some
returns-in-Some c =
    when_ok c.wish_presence.result
    (sets c.args.self.now c.args.session c.args.out.now.items c.args.status c.in-Some.viewer c.wish_presence.new.out.items (sym c.viewer_of.ensures ∙ c.in-Some.is))
    (subst (λ rs. OnOk c.wish_presence.result (c.wish_presence.new.out.items ≡ c.args.out.now.items ++ all_written rs))
    (sym (of_bare (λ (r : GuildCopy). wished (replica_id r) (presence_wish r.guild c.in-Some.viewer c.args.status)) (λ r. refl) c.replicas.result.now)
    ∙ ap (flat_map (λ (r : GuildCopy). wished (replica_id r) (presence_wish r.guild c.in-Some.viewer c.args.status))) c.replicas.ensures) c.wish_presence.ensures)
