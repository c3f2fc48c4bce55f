use Rattle.std.proofs.Common.{None, refl, sym, ◌∙◌}
use Rattle.session_core.proofs.Entries.{without-kept}
use Rattle.session_core.proofs.Changes.{IsKept-connection}
use Rattle.session_core.proofs.Endings.{left-none, left-removed, IsKept-left}
use Rattle.session_core.proofs.Sides.{session_at-is, session_at-absent, off-kept}
use Rattle.session_core.proofs.Held.{AreHeld-set}
use Rattle.session_core.proofs.sessions.Sessions.leave.Goals as goal

pub returns-in_default : goal.returns-in_default
returns-in_default c =
    let free = session_at-absent c.self.inside.connections.entries c.args.conn (sym c.in_default.ensures.value) in
    rw (
      ← c.self.view_is,
      c.in_default.ensures.entries,
      without-kept c.self.inside.connections.entries c.args.conn c.self.invariant.0.connections_once,
      left-none c.self.inside.sessions.entries c.args.conn c.self.invariant.0.sessions_once (off-kept _ _ _ c.self.invariant.0 c.args.conn free),
    ) refl

pub invariant_of-self-in_default-session : goal.invariant_of-self-in_default-session
invariant_of-self-in_default-session c =
    let is = session_at-is c.self.inside.connections.entries c.args.conn c.in-Some.connection (sym c.in-Some.ensures.value) in (
      IsKept-connection c.self.inside.made c.self.inside.connections.entries c.shift_remove.new.self.entries c.self.inside.sessions.entries c.args.conn None
          c.self.invariant.0 c.in-Some.ensures.unique c.in-Some.ensures.updates.0 (sym (is ∙ c.in_default-session.is)),
      c.self.invariant.1,
    )

pub returns-in_default-session : goal.returns-in_default-session
returns-in_default-session c =
    let free = session_at-is c.self.inside.connections.entries c.args.conn c.in-Some.connection (sym c.in-Some.ensures.value) ∙ c.in_default-session.is in
    rw (
      ← c.self.view_is,
      c.in-Some.ensures.entries,
      without-kept c.self.inside.connections.entries c.args.conn c.self.invariant.0.connections_once,
      left-none c.self.inside.sessions.entries c.args.conn c.self.invariant.0.sessions_once (off-kept _ _ _ c.self.invariant.0 c.args.conn free),
    ) refl

pub invariant_of-self-2 : goal.invariant_of-self-2
invariant_of-self-2 c =
    let is = session_at-is c.self.inside.connections.entries c.args.conn c.in-Some.connection (sym c.in-Some.ensures.value) ∙ c.in-Some-session.is in (
      IsKept-left _ _ _ _ _ c.args.conn c.in-Some-session.number c.self.invariant.0 is
          c.in-Some.ensures.unique c.in-Some.ensures.updates.0 c.shift_remove-2.ensures.unique c.shift_remove-2.ensures.updates.0,
      AreHeld-set _ _ _ c.in-Some-session.number None c.self.invariant.1 c.shift_remove-2.ensures.updates.0 tt,
    )

pub returns : goal.returns
returns c =
    let is = session_at-is c.self.inside.connections.entries c.args.conn c.in-Some.connection (sym c.in-Some.ensures.value) ∙ c.in-Some-session.is in
    rw (
      ← c.self.view_is,
      c.in-Some.ensures.entries,
      c.shift_remove-2.ensures.entries,
      without-kept c.self.inside.connections.entries c.args.conn c.self.invariant.0.connections_once,
      left-removed c.self.inside.made c.self.inside.connections.entries c.self.inside.sessions.entries c.self.invariant.0 c.args.conn c.in-Some-session.number is,
    ) refl
