-- Masks are lent exactly if the user has a session that is served.
use Rattle.std.proofs.Common.{sym, ap, ◌∙◌}
use Rattle.std.specs.Prelude.{option_map}
use Rattle.std.specs.Option.{option_copied}
use Rattle.worker_core.specs.InCode.{bare}
use Rattle.worker_core.specs.Masks.{has_kept_session}
use Rattle.worker_core.proofs.Masks.{lends_none, lends_without, lends_masks}
use Rattle.worker_core.proofs.worker.Worker.masks.Goals as goal

pub returns-in_default : goal.returns-in_default
returns-in_default c w stands =
    lends_none c.args.self.now w stands c.args.guild c.args.user (sym c.replica.ensures.found ∙ ap (λ o. option_map bare (option_copied o)) c.in_default.is)

pub returns-then-not-has_session : goal.returns-then-not-has_session
returns-then-not-has_session c w stands =
    lends_without c.args.self.now w stands c.args.guild c.args.user c.in-Some.replica.now
    (sym c.replica.ensures.found ∙ ap (λ o. option_map bare (option_copied o)) c.in-Some.is)
    (sym (ap (has_kept_session c.args.self.now.machine.core.sessions c.args.user) c.guild.ensures) ∙ sym c.if-not-has_session.ensures)

pub returns : goal.returns
returns c w stands =
    lends_masks c.args.self.now w stands c.args.guild c.args.user c.in-Some.replica.now
    (sym c.replica.ensures.found ∙ ap (λ o. option_map bare (option_copied o)) c.in-Some.is)
    (sym c.replica.ensures.copied ∙ ap option_copied c.in-Some.is)
    (sym (ap (has_kept_session c.args.self.now.machine.core.sessions c.args.user) c.guild.ensures) ∙ sym c.if-not-has_session.ensures)
    (λ m. m.now) c.masks.result c.masks.ensures.lent c.masks.ensures.there
