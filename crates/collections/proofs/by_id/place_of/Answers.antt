use Rattle.std.proofs.Common.{sym, rules}
use Rattle.std.specs.Prelude.{nat_lt}
use Rattle.std.proofs.lemmas.List.Sorted.{IsPartitionPoint-from_clause}
use Rattle.collections.proofs.Ids.{parted, count_is}
use Rattle.collections.proofs.by_id.place_of.Goals as goal

pub returns : goal.returns
returns g c =
    sym (count_is g.T.Keyed.key c.args.id c.args.items.now c.partition_point.result c.partition_point.ensures.bound
    (IsPartitionPoint-from_clause (λ y. nat_lt (g.T.Keyed.key y) c.args.id) c.args.items.now c.partition_point.result c.partition_point.ensures.partitioned (parted g.T.Keyed.key _ _ c.requires) (λ a r f called. search rules)))
