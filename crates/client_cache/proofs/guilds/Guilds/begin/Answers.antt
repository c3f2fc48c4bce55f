use Rattle.client_cache.proofs.Entries.{unavailable-viewed}
use Rattle.client_cache.proofs.Settled.{unavailable-settled}
use Rattle.client_cache.proofs.guilds.Guilds.begin.Goals as goal

pub invariant_of-self : goal.invariant_of-self
invariant_of-self c = rw (c.in_ok-viewed.ensures, c.in_ok-entries.ensures, c.in_ok-unavailable_entries.ensures)
    (unavailable-viewed c.args.fold.now.intents c.args.ids.now, unavailable-settled c.args.fold.now.intents c.self.inside.unsettled c.args.ids.now)
