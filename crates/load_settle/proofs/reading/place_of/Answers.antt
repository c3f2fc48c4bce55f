use Rattle.std.proofs.Common.{◌≡◌, ◌<◌, ◌∙◌, Some, length, get_or, sym, ap, subst, rules}
use Rattle.std.specs.Prelude.{nat_lt}
use Rattle.std.proofs.lemmas.List.Sorted.{IsPartitionPoint-from_clause}
use Rattle.collections.proofs.Ids.{parted, count_is}
use Rattle.load_settle.proofs.Places.{Log, guild_of, log_is}
use Rattle.load_settle.proofs.reading.place_of.Goals as goal

pub returns-clause-inside : goal.returns-clause-inside
returns-clause-inside g c =
    let logs = c.args.logs.now in
    let at = count_is guild_of c.args.guild logs c.partition_point.result c.partition_point.ensures.bound
    (IsPartitionPoint-from_clause (λ (log : Log). nat_lt log.0 c.args.guild) logs c.partition_point.result c.partition_point.ensures.partitioned (parted guild_of logs c.args.guild c.requires.ascending) (λ a r f called. search rules)) in
    subst (λ n. n < length logs) at (log_is c.args.guild logs c.requires.ascending c.requires.there).1

pub returns-clause-under : goal.returns-clause-under
returns-clause-under g c d =
    let logs = c.args.logs.now in
    let at = count_is guild_of c.args.guild logs c.partition_point.result c.partition_point.ensures.bound
    (IsPartitionPoint-from_clause (λ (log : Log). nat_lt log.0 c.args.guild) logs c.partition_point.result c.partition_point.ensures.partitioned (parted guild_of logs c.args.guild c.requires.ascending) (λ a r f called. search rules)) in
    let found = log_is c.args.guild logs c.requires.ascending c.requires.there in
    found.3 ∙ ap (λ (log : Log). Some log.1) (sym (subst (λ n. get_or logs n d ≡ found.0) at (found.2 d)))
