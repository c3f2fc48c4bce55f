use Rattle.std.proofs.Common.{ap}
use Rattle.scenario.specs.declared.server.Server.{Server as KeptServer}
use Rattle.scenario.specs.Server.{world}
use Rattle.scenario.specs.Represents.{guilds_of}
use Rattle.scenario.proofs.Servers.{give_plays}
use Rattle.scenario.proofs.server.Server.give.Goals as goal

pub returns : goal.returns
returns c p line i stands is gives =
    let start = c.in_ok-start.ensures.starts p stands in
    let same = c.in_ok-start.ensures.slots in
    give_plays (λ out. out.items) c.give.result c.args.self.now (record c.start.new.self { slots = c.give.new.slots }) p line c.args.worker i c.start.new.self.slots.items
    stands.keeps gives (ap (λ (k : KeptServer). k.bots) same) (ap (λ (k : KeptServer). k.guilds) same) (ap (λ (k : KeptServer). k.logs) same) (ap (λ (k : KeptServer). k.used) same) start
    (c.give.ensures (guilds_of p) (world p).workers i start.1 is)
