use Rattle.std.proofs.Common.{◌≡◌}
use Rattle.guild_actor.specs.Desks.{held_after}
use Rattle.guild_actor.proofs.acting.deliver_all.Given as goal

abbrev pub invariant-loop : goal.invariant-loop
invariant-loop g l = record {
  post : l.pass.post ≡ l.fn.pass.post;
  senders : l.pass.senders ≡ l.fn.pass.senders;
  held : l.desk ≡ held_after l.fn.desk.writers l.pass.taken;
}
