use Rattle.std.proofs.Common.{take}
use Rattle.guild_replica.specs.Replicas.{EachKept}
use Rattle.guild_replica.proofs.masks.masks_of_each.Given as goal

abbrev pub invariant-loop-user : goal.invariant-loop-user
invariant-loop-user l = EachKept l.guild (take l.user-index l.users) l.masks.items
