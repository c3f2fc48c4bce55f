use Rattle.std.proofs.Common.{◌≡◌, List, Some, sym, ap, ◌∙◌}
use Rattle.std.proofs.lemmas.Result.{on_ok_weaker}
use Rattle.client_cache.specs.declared.held.HeldGuild.{HeldGuild}
use Rattle.dispatch_types.specs.GuildOf.{guild_of}
use Rattle.client_cache.specs.Cached.{held_in}
use Rattle.client_cache.proofs.Entries.{changed-put}
use Rattle.client_cache.proofs.cache.Cache.change.Goals as goal

pub returns-in-Some-clause-ok : goal.returns-in-Some-clause-ok
returns-in-Some-clause-ok c =
    let of : guild_of c.args.dispatch ≡ Some c.in-Some.guild = sym c.guild.ensures ∙ c.in-Some.is in
    rw (← c.self.view_is)
    (on_ok_weaker c.change.result
    (λ is g. ap (λ (es : List HeldGuild). held_in c.self.inside.fold.bot es g) is ∙ changed-put c.self.inside.fold.bot c.self.inside.fold.intents c.args.dispatch c.in-Some.guild of c.self.inside.guilds g)
    c.change.ensures.ok)
