-- The session that is found is the live one of the number, and is kept with whom it is for.
use Rattle.std.proofs.Common.{◌≡◌, nat_eq, Some, refl, sym, ap}
use Rattle.std.specs.Map.{lookup}
use Rattle.session_core.proofs.Held.{held-at}
use Rattle.session_core.proofs.Numbered.{numbered-kept, numbers-kept}
use Rattle.session_core.proofs.sessions.Sessions.holder.Goals as goal

pub returns-in_default-clause-holder : goal.returns-in_default-clause-holder
returns-in_default-clause-holder c =
    rw (← c.self.view_is, numbered-kept c.self.inside.sessions.entries c.args.session, ← c.in_default.ensures.value) refl

pub returns-clause-holder : goal.returns-clause-holder
returns-clause-holder c =
    let there : lookup (nat_eq c.args.session) c.self.inside.sessions.entries ≡ Some c.in-Some.session.now = sym c.in-Some.ensures.value in
    rw (← c.self.view_is, numbered-kept c.self.inside.sessions.entries c.args.session, there)
    (ap Some (held-at c.self.inside.worker c.self.inside.sessions.entries c.args.session c.in-Some.session.now c.self.invariant.1 there))

pub returns-in_default-clause-once : goal.returns-in_default-clause-once
returns-in_default-clause-once c = rw (← c.self.view_is, numbers-kept c.self.inside.sessions.entries) c.self.invariant.0.sessions_once

pub returns-clause-once : goal.returns-clause-once
returns-clause-once c = rw (← c.self.view_is, numbers-kept c.self.inside.sessions.entries) c.self.invariant.0.sessions_once
