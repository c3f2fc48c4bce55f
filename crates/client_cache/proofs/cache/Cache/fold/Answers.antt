use Rattle.std.proofs.Common.{List, sym, ap, ◌∙◌}
use Rattle.std.proofs.lemmas.Result.{on_ok_weaker}
use Rattle.dispatch_types.specs.Fold.{purge}
use Rattle.client_cache.specs.declared.held.HeldGuild.{HeldGuild}
use Rattle.client_cache.specs.Cached.{Cached, held_of, held_in}
use Rattle.client_cache.proofs.Changes.{folded-late, folded-soon}
use Rattle.client_cache.proofs.Entries.{all-purged}
use Rattle.client_cache.proofs.cache.Cache.fold.Goals as goal

pub returns-then-leaves_over-clause-ok : goal.returns-then-leaves_over-clause-ok
returns-then-leaves_over-clause-ok c =
    on_ok_weaker c.change.result
    (λ is g. is g ∙ folded-late c.args.self.now.intents g c.args.dispatch (held_of c.args.self.now g) (sym c.leaves_over.ensures ∙ c.if-leaves_over.true))
    c.change.ensures.ok

pub returns-clause-ok : goal.returns-clause-ok
returns-clause-ok c g =
    let intents = c.args.self.now.intents in
    ap (λ (es : List HeldGuild). held_in c.self.inside.fold.bot es g) c.purge.ensures
    ∙ (all-purged c.self.inside.fold.bot intents c.self.inside.guilds g
    ∙ (ap (λ (s : Cached). purge intents g (held_of s g)) c.self.view_is
    ∙ (ap (purge intents g) (c.in_ok-change.ensures.ok g)
    ∙ folded-soon intents g c.args.dispatch (held_of c.args.self.now g) (sym c.leaves_over.ensures ∙ c.if-leaves_over.false))))
