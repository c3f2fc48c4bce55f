use Rattle.std.proofs.Common.{◌≡◌, nat_eq, None, Some, refl, sym, ◌∙◌}
use Rattle.std.specs.Map.{lookup}
use Rattle.session_core.specs.declared.kept.Session.{Session as KeptSession}
use Rattle.session_core.specs.declared.kept.Condition.TheVariants as condition
use Rattle.session_core.specs.State.{Detached}
use Rattle.session_core.proofs.Entries.{without-kept, released-none, released-kept}
use Rattle.session_core.proofs.Changes.{IsKept-connection, IsKept-cut}
use Rattle.session_core.proofs.Sides.{session_at-is, session_at-absent, off-kept, only-kept, there-kept, on-kept}
use Rattle.session_core.proofs.Held.{AreHeld-set, held-at}
use Rattle.session_core.proofs.sessions.Sessions.detach.Goals as goal

pub returns-in_default : goal.returns-in_default
returns-in_default c =
    let free = session_at-absent c.self.inside.connections.entries c.args.conn (sym c.in_default.ensures.value) in
    rw (
      ← c.self.view_is,
      c.in_default.ensures.entries,
      without-kept c.self.inside.connections.entries c.args.conn c.self.invariant.0.connections_once,
      released-none c.self.inside.sessions.entries c.args.conn (Detached c.args.now) c.self.invariant.0.sessions_once (off-kept _ _ _ c.self.invariant.0 c.args.conn free),
    ) refl

pub invariant_of-self-in_default-session : goal.invariant_of-self-in_default-session
invariant_of-self-in_default-session c =
    let is = session_at-is c.self.inside.connections.entries c.args.conn c.in-Some.connection (sym c.in-Some.ensures.value) in (
      IsKept-connection c.self.inside.made c.self.inside.connections.entries c.shift_remove.new.self.entries c.self.inside.sessions.entries c.args.conn None
          c.self.invariant.0 c.in-Some.ensures.unique c.in-Some.ensures.updates.0 (sym (is ∙ c.in_default-session.is)),
      c.self.invariant.1,
    )

pub returns-in_default-session : goal.returns-in_default-session
returns-in_default-session c =
    let free = session_at-is c.self.inside.connections.entries c.args.conn c.in-Some.connection (sym c.in-Some.ensures.value) ∙ c.in_default-session.is in
    rw (
      ← c.self.view_is,
      c.in-Some.ensures.entries,
      without-kept c.self.inside.connections.entries c.args.conn c.self.invariant.0.connections_once,
      released-none c.self.inside.sessions.entries c.args.conn (Detached c.args.now) c.self.invariant.0.sessions_once (off-kept _ _ _ c.self.invariant.0 c.args.conn free),
    ) refl

pub invariant_of-self-in_default-get_mut : goal.invariant_of-self-in_default-get_mut
invariant_of-self-in_default-get_mut c =
    let is = session_at-is c.self.inside.connections.entries c.args.conn c.in-Some.connection (sym c.in-Some.ensures.value) ∙ c.in-Some-session.is in
    absurd (there-kept _ _ _ c.self.invariant.0 c.args.conn c.in-Some-session.number is (sym c.in_default-get_mut.ensures.value))

pub returns-in_default-get_mut : goal.returns-in_default-get_mut
returns-in_default-get_mut c =
    let is = session_at-is c.self.inside.connections.entries c.args.conn c.in-Some.connection (sym c.in-Some.ensures.value) ∙ c.in-Some-session.is in
    absurd (there-kept _ _ _ c.self.invariant.0 c.args.conn c.in-Some-session.number is (sym c.in_default-get_mut.ensures.value))

pub invariant_of-self-2 : goal.invariant_of-self-2
invariant_of-self-2 c =
    let is = session_at-is c.self.inside.connections.entries c.args.conn c.in-Some.connection (sym c.in-Some.ensures.value) ∙ c.in-Some-session.is in
    let there : lookup (nat_eq c.in-Some-session.number) c.self.inside.sessions.entries ≡ Some c.in-Some-get_mut.session.now = sym c.in-Some-get_mut.ensures.value in
    let x : KeptSession = record c.in-Some-get_mut.session.now { condition = condition.Detached c.args.now } in
    let w = c.get_mut.follows.holds x in (
      IsKept-cut _ _ _ _ _ c.args.conn c.in-Some-session.number x c.self.invariant.0 is refl (rw there refl)
          c.in-Some.ensures.unique c.in-Some.ensures.updates.0 w.4 (w.3 (rw there refl)).0,
      AreHeld-set _ _ _ c.in-Some-session.number (Some x) c.self.invariant.1 (w.3 (rw there refl)).0
          (held-at _ _ c.in-Some-session.number c.in-Some-get_mut.session.now c.self.invariant.1 there),
    )

pub returns : goal.returns
returns c =
    let is = session_at-is c.self.inside.connections.entries c.args.conn c.in-Some.connection (sym c.in-Some.ensures.value) ∙ c.in-Some-session.is in
    let there : lookup (nat_eq c.in-Some-session.number) c.self.inside.sessions.entries ≡ Some c.in-Some-get_mut.session.now = sym c.in-Some-get_mut.ensures.value in
    let x : KeptSession = record c.in-Some-get_mut.session.now { condition = condition.Detached c.args.now } in
    let w = c.get_mut.follows.holds x in
    rw (
      ← c.self.view_is,
      c.in-Some.ensures.entries,
      w.0,
      without-kept c.self.inside.connections.entries c.args.conn c.self.invariant.0.connections_once,
      released-kept c.self.inside.sessions.entries c.args.conn c.in-Some-session.number (condition.Detached c.args.now) c.in-Some-get_mut.session.now
          c.self.invariant.0.sessions_once (only-kept _ _ _ c.self.invariant.0 c.args.conn c.in-Some-session.number is) there
          (on-kept _ _ _ c.self.invariant.0 c.args.conn c.in-Some-session.number c.in-Some-get_mut.session.now is there),
    ) refl
