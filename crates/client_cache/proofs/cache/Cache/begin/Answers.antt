use Rattle.client_cache.specs.Cached.{held_in}
use Rattle.client_cache.proofs.Entries.{begun-held}
use Rattle.client_cache.proofs.cache.Cache.begin.Goals as goal

pub returns-clause-ok : goal.returns-clause-ok
returns-clause-ok c g =
    rw (← c.self.view_is, c.in_ok-begin.ensures.ok, c.as_slice.ensures)
    (begun-held c.self.inside.fold.intents c.args.ready.now (held_in c.self.inside.fold.bot c.self.inside.guilds g) g)
