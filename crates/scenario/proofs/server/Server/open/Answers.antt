use Rattle.std.proofs.Common.{refl, ap, ◌∙◌, rules}
use Rattle.world_law.specs.Inputs.{Open}
use Rattle.collections.specs.ById.{put_id}
use Rattle.scenario.specs.declared.opened.Opened.{Opened}
use Rattle.scenario.specs.declared.server.Server.{Server as KeptServer}
use Rattle.scenario.specs.Server.{world, opened_id}
use Rattle.scenario.specs.Represents.{guilds_of}
use Rattle.scenario.proofs.Servers.{open_plays}
use Rattle.scenario.proofs.server.Server.open.Goals as goal

pub returns : goal.returns
returns c p stands =
    let start = c.in_ok-start.ensures.starts p stands in
    let same = c.in_ok-start.ensures.slots in
    let o : Opened = record { number = c.args.conn; worker = c.args.worker } in
    open_plays (λ out. out.items) c.give.result c.args.self.now (record c.start.new.self { used = c.insert.new.self; slots = c.give.new.slots }) p c.args.worker c.args.conn c.start.new.self.slots.items
    stands.keeps (search rules) (ap (λ (k : KeptServer). k.bots) same) (ap (λ (k : KeptServer). k.guilds) same) (ap (λ (k : KeptServer). k.logs) same)
    (c.in_ok-insert.ensures.ok ∙ ap (λ (k : KeptServer). put_id opened_id o k.used) same) start (c.give.ensures (guilds_of p) (world p).workers (Open c.args.conn) start.1 refl)
