-- The session that is found is the live one of the number.
use Rattle.std.proofs.Common.{◌≡◌, nat_eq, Some, refl, sym}
use Rattle.std.specs.Map.{lookup}
use Rattle.session_core.proofs.Numbered.{numbered-kept}
use Rattle.session_core.proofs.sessions.Sessions.next_number.Goals as goal

pub returns-in_default : goal.returns-in_default
returns-in_default c =
    rw (← c.self.view_is, numbered-kept c.self.inside.sessions.entries c.args.session, ← c.in_default.ensures.value) refl

pub returns : goal.returns
returns c =
    let there : lookup (nat_eq c.args.session) c.self.inside.sessions.entries ≡ Some c.in-Some.session.now = sym c.in-Some.ensures.value in
    rw (← c.self.view_is, numbered-kept c.self.inside.sessions.entries c.args.session, there, c.saturating_add.ensures, c.last.ensures) refl
