use Rattle.std.proofs.Common.{drop, length, take}
use Rattle.std.specs.Vec.Iter.{into_iter_items}
use Rattle.guild_replica.specs.Replicas.{EachKept}
use Rattle.guild_replica.proofs.Served.{AreKeptBefore}
use Rattle.guild_replica.proofs.masks.mend_each.Given as goal

abbrev pub invariant-loop-one : goal.invariant-loop-one
invariant-loop-one l =
    AreKeptBefore l.guild l.edit (drop (length l.then.items) l.users) (into_iter_items l.one-iterator)
    × EachKept l.guild (take (length l.then.items) l.users) l.then.items
