use Rattle.std.proofs.Common.{sym, ap, ◌∙◌}
use Rattle.std.specs.Option.{option_copied}
use Rattle.overwrite_eval.proofs.TierFacts.{unites_found, unites_missing}
use Rattle.overwrite_eval.proofs.tiers.own_tier.Goals as goal

pub returns-in-Some : goal.returns-in-Some
returns-in-Some c =
    rw (c.of.ensures, ← c.user.view_is)
    (unites_found _ c.args.overwrites.now c.in-Some.overwrite.now c.requires (sym c.find.ensures ∙ ap option_copied c.in-Some.is))

pub returns-in-None : goal.returns-in-None
returns-in-None c =
    rw (← c.user.view_is) (unites_missing _ c.args.overwrites.now c.requires (sym c.find.ensures ∙ ap option_copied c.in-None.is))
