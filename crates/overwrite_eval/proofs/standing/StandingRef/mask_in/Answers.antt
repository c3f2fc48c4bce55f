use Rattle.std.proofs.Common.{sym, ap, ◌∙◌}
use Rattle.std.specs.Option.{option_copied}
use Rattle.guild_model.specs.Sight.{Standing}
use Rattle.overwrite_eval.proofs.Grants.{granted_from_base}
use Rattle.overwrite_eval.proofs.standing.StandingRef.mask_in.Goals as goal

pub returns-in-Some-clause-bits : goal.returns-in-Some-clause-bits
returns-in-Some-clause-bits c b below =
    let inside = c.self.inside in
    let s : Standing = record { guild = inside.guild; owner = inside.owner; roles = inside.roles.now; channels = inside.channels.now; me = inside.me.now } in
    rw (← c.self.view_is, ← c.channel.view_is)
    (c.part_mask_from.ensures b below ∙
    granted_from_base s _ c.in-Some.channel.now inside.base (sym c.get.ensures ∙ ap option_copied c.in-Some.is) c.self.invariant b below)
