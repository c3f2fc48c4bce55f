use Rattle.std.proofs.Common.{◌∙◌}
use Rattle.client_cache.proofs.Entries.{view-any}
use Rattle.client_cache.proofs.cache.Cache.view.Goals as goal

pub returns : goal.returns
returns c = rw (← c.self.view_is) (c.view.ensures ∙ view-any 0 c.self.inside.fold.bot c.args.guild c.self.inside.guilds)
