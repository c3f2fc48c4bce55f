use Rattle.std.proofs.Common.{sym, rules}
use Rattle.std.specs.Prelude.{nat_lt}
use Rattle.std.proofs.lemmas.List.Sorted.{IsPartitionPoint-from_clause}
use Rattle.collections.proofs.Ids.{parted, count_is}
use Rattle.open_links.specs.Links.{Held, held_conn}
use Rattle.open_links.proofs.numbered.place_of.Goals as goal

pub returns : goal.returns
returns g c =
    sym (count_is held_conn c.args.conn c.args.links.now c.partition_point.result c.partition_point.ensures.bound
    (IsPartitionPoint-from_clause (λ (l : Held). nat_lt l.conn c.args.conn) c.args.links.now c.partition_point.result c.partition_point.ensures.partitioned (parted held_conn _ _ c.requires) (λ a r f called. search rules)))
