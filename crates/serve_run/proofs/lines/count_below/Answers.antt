use Rattle.std.proofs.Common.{sym, rules}
use Rattle.std.specs.Prelude.{nat_lt}
use Rattle.std.proofs.lemmas.List.Sorted.{IsPartitionPoint-from_clause}
use Rattle.collections.proofs.Ids.{parted, count_is}
use Rattle.gate_ends.proofs.Writers.{Log, guild_of}
use Rattle.serve_run.proofs.lines.count_below.Goals as goal

pub returns : goal.returns
returns g c =
    let logs = c.args.logs.now in
    sym (count_is guild_of c.args.guild logs c.partition_point.result c.partition_point.ensures.bound
    (IsPartitionPoint-from_clause (λ (log : Log). nat_lt log.0 c.args.guild) logs c.partition_point.result c.partition_point.ensures.partitioned (parted guild_of logs c.args.guild c.requires) (λ a r f called. search rules)))
