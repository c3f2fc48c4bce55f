use Rattle.std.proofs.Common.{map, take}
use Rattle.guild_hub.specs.Logs.{whole_record}
use Rattle.load_run.specs.Ends.{AllAgreeSo}
use Rattle.load_run.proofs.agreeing.agrees_of.Given as goal

abbrev pub invariant-loop-number : goal.invariant-loop-number
invariant-loop-number g l = AllAgreeSo (map (λ log. whole_record log.1) l.logs) 0 (take l.number l.clients) l.agrees.items
