use Rattle.std.proofs.Common.{◌≡◌, List, map, sym, subst, ap, ◌∙◌}
use Rattle.client_cache.specs.declared.held.HeldGuild.{HeldGuild}
use Rattle.client_cache.specs.Cached.{entry_purged, AreViewed}
use Rattle.client_cache.specs.Settled.{purged_at}
use Rattle.client_cache.proofs.Entries.{purged-viewed}
use Rattle.client_cache.proofs.Settled.{all-settled, none-unsettled}
use Rattle.client_cache.proofs.guilds.Guilds.purge.Goals as goal

pub invariant_of-self : goal.invariant_of-self
invariant_of-self c =
    let old = c.self.inside.entries in
    let now : c.purge_at.new.entries ≡ map entry_purged old = c.purge_at.ensures ∙ (ap (λ ids. purged_at ids old) c.as_slice.ensures.items ∙ all-settled c.self.inside.unsettled old c.as_slice-entries.ensures.ascending c.self.invariant.1) in (
      subst (λ (es : List HeldGuild). AreViewed c.self.inside.viewed es) (sym now) (purged-viewed c.self.inside.viewed old c.self.invariant.0),
      rw (now, c.settle.ensures) (none-unsettled old),
    )

pub returns : goal.returns
returns c =
    rw (← c.self.view_is) (c.purge_at.ensures ∙ (ap (λ ids. purged_at ids c.self.inside.entries) c.as_slice.ensures.items ∙ all-settled c.self.inside.unsettled c.self.inside.entries c.as_slice-entries.ensures.ascending c.self.invariant.1))
