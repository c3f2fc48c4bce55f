use Rattle.std.proofs.Common.{◌≡◌, false, sym, subst}
use Rattle.std.specs.List.{All}
use Rattle.guild_actor.specs.Desks.{Holding}
use Rattle.guild_actor.proofs.Writers.{Writer, unspent_after}
use Rattle.guild_actor.proofs.acting.deliver_all.Goals as goal

pub deliver-requires : goal.deliver-requires
deliver-requires g c = record {
  unspent = subst (λ (h : Holding). All (λ (w : Writer). w.1.spent ≡ false) h.writers) (sym c.loop.invariant.held) (unspent_after c.loop.pass.taken c.args.desk.now.writers);
}
