use Rattle.std.proofs.Common.{◌≡◌, drop}
use Rattle.client_cache.specs.Settled.{purged_at}
use Rattle.client_cache.proofs.guilds.purge_at.Given as goal

-- what is still to be purged from here gives what was to be purged from the start
abbrev pub invariant-loop-guild : goal.invariant-loop-guild
invariant-loop-guild l = purged_at (drop l.guild-index l.guilds) l.entries ≡ purged_at l.guilds l.fn.entries
