use Rattle.std.proofs.Common.{◌≡◌, false, ◌++◌, map, length, reverse, All}
use Rattle.guild_actor.specs.Desks.{log_sealed}
use Rattle.guild_actor.proofs.seals.seal_all.Given as goal

abbrev pub invariant-loop-guild : goal.invariant-loop-guild
invariant-loop-guild g l = record {
  unspent : All (λ w. w.1.spent ≡ false) l.writers.items;
  sealed : map log_sealed l.fn.writers.items ≡ map log_sealed l.writers.items ++ reverse l.logs.items;
}

abbrev pub decreases-loop-guild : goal.decreases-loop-guild
decreases-loop-guild g l = length l.writers.items
