use Rattle.std.proofs.Common.{sym, ap, ◌∙◌}
use Rattle.std.specs.Option.{option_map}
use Rattle.session_core.specs.declared.kept.Session.{Session as KeptSession}
use Rattle.session_core.specs.Kept.{session_of}
use Rattle.session_core.proofs.Joins.{find-kept}
use Rattle.session_core.proofs.sessions.Sessions.session.Goals as goal

pub returns : goal.returns
returns c =
    rw (← c.self.view_is)
    (ap (option_map (λ (x : KeptSession). session_of (c.args.number, x))) c.get.ensures.value ∙ sym (find-kept c.self.inside.sessions.entries c.args.number))
