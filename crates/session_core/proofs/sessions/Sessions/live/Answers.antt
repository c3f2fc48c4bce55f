-- All sessions that the code keeps are live, each with its own number.
use Rattle.std.proofs.Common.{refl}
use Rattle.session_core.proofs.Entries.{live-kept}
use Rattle.session_core.proofs.Numbered.{number-index, numbers-kept}
use Rattle.session_core.proofs.sessions.Sessions.live.Goals as goal

pub returns-in_default-clause-number : goal.returns-in_default-clause-number
returns-in_default-clause-number c =
    rw (← c.self.view_is, live-kept c.self.inside.sessions.entries, number-index c.self.inside.sessions.entries c.args.index, ← c.in_default.ensures.entry) refl

pub returns-in_default-clause-all : goal.returns-in_default-clause-all
returns-in_default-clause-all c = rw (← c.self.view_is) (live-kept c.self.inside.sessions.entries)

pub returns-in_default-clause-once : goal.returns-in_default-clause-once
returns-in_default-clause-once c = rw (← c.self.view_is, numbers-kept c.self.inside.sessions.entries) c.self.invariant.0.sessions_once

pub returns-clause-number : goal.returns-clause-number
returns-clause-number c =
    rw (← c.self.view_is, live-kept c.self.inside.sessions.entries, number-index c.self.inside.sessions.entries c.args.index, ← c.in-Some.ensures.entry) refl

pub returns-clause-all : goal.returns-clause-all
returns-clause-all c = rw (← c.self.view_is) (live-kept c.self.inside.sessions.entries)

pub returns-clause-once : goal.returns-clause-once
returns-clause-once c = rw (← c.self.view_is, numbers-kept c.self.inside.sessions.entries) c.self.invariant.0.sessions_once
