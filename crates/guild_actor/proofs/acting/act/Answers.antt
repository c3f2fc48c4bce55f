use Rattle.std.proofs.Common.{◌≡◌, ◌∙◌, false, map, sym, ap, subst}
use Rattle.std.specs.List.{All}
use Rattle.edit_post.specs.Post.{ended_lists}
use Rattle.guild_actor.specs.Desks.{Holding, log_sealed}
use Rattle.guild_actor.proofs.Writers.{Writer, unspent_after, sealed_after, merged}
use Rattle.guild_actor.proofs.Delivery.{final}
use Rattle.guild_actor.proofs.acting.act.Goals as goal

pub seal_all-requires : goal.seal_all-requires
seal_all-requires g c =
    let ws = c.args.writers.items in
    let rs = c.deliver_all.new.pass.taken in
    subst (λ (h : Holding). All (λ (w : Writer). w.1.spent ≡ false) h.writers) (sym (final ws rs c.in_ok-desk.desk c.deliver_all.new.desk _ c.requires.writers.1 c.in_ok-desk.ensures c.in_ok-deliver_all.ensures.ok c.desk.view_is)) (unspent_after rs ws)

pub returns-clause-logs : goal.returns-clause-logs
returns-clause-logs g c =
    let ws = c.args.writers.items in
    let rs = c.deliver_all.new.pass.taken in
    c.in_ok-logs.ensures
    ∙ ap (λ (h : Holding). map log_sealed h.writers) (final ws rs c.in_ok-desk.desk c.deliver_all.new.desk _ c.requires.writers.1 c.in_ok-desk.ensures c.in_ok-deliver_all.ensures.ok c.desk.view_is)
    ∙ sealed_after rs ws

pub returns-clause-merged : goal.returns-clause-merged
returns-clause-merged g c guild = merged guild (ended_lists c.deliver_all.new.pass) c.deliver_all.new.pass.taken c.in_ok-deliver_all.ensures.ended.1

pub returns-clause-full : goal.returns-clause-full
returns-clause-full g c =
    ap (λ (h : Holding). h.full) (final c.args.writers.items c.deliver_all.new.pass.taken c.in_ok-desk.desk c.deliver_all.new.desk _ c.requires.writers.1 c.in_ok-desk.ensures c.in_ok-deliver_all.ensures.ok c.desk.view_is)
