use Rattle.std.proofs.Common.{◌≡◌, map, take}
use Rattle.guild_hub.specs.Logs.{whole_record}
use Rattle.load_run.proofs.agreeing.records_of.Given as goal

abbrev pub invariant-loop-log : goal.invariant-loop-log
invariant-loop-log g l = map (λ guild. guild.now) l.records.items ≡ map (λ log. whole_record log.1) (take l.log-index l.logs)
