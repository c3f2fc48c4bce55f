use Rattle.std.proofs.Common.{◌∙◌}
use Rattle.client_cache.proofs.Entries.{known-any}
use Rattle.client_cache.proofs.cache.Cache.known.Goals as goal

pub returns : goal.returns
returns c = rw (← c.self.view_is) (c.known.ensures ∙ known-any 0 c.self.inside.fold.bot c.args.guild c.self.inside.guilds)
