use Rattle.std.proofs.Common.{◌≡◌, nat_eq, None, Some, refl, sym}
use Rattle.std.specs.Map.{lookup}
use Rattle.session_core.specs.declared.kept.Connection.{Connection as KeptConnection}
use Rattle.session_core.specs.declared.kept.Session.{Session as KeptSession}
use Rattle.session_core.specs.declared.kept.Condition.TheVariants as condition
use Rattle.session_core.specs.Kept.{session_at}
use Rattle.session_core.proofs.Entries.{open-absent, tied-kept}
use Rattle.session_core.proofs.Joins.{not-absent, off-there, joined-kept, IsKept-joined}
use Rattle.session_core.proofs.Sides.{free-kept}
use Rattle.session_core.proofs.Held.{AreHeld-set, held-at}
use Rattle.session_core.proofs.sessions.Sessions.attach.Goals as goal

pub returns-in_default : goal.returns-in_default
returns-in_default c =
    absurd (not-absent c.self.inside.sessions.entries c.args.number (rw (← c.self.view_is) at c.requires.there) (sym c.in_default.ensures.value))

pub invariant_of-self-in_default-get_mut : goal.invariant_of-self-in_default-get_mut
invariant_of-self-in_default-get_mut c =
    absurd (open-absent c.self.inside.connections.entries c.args.conn (rw (← c.self.view_is) at c.requires.connected) (sym c.in_default-get_mut.ensures.value))

pub returns-in_default-get_mut : goal.returns-in_default-get_mut
returns-in_default-get_mut c =
    absurd (open-absent c.self.inside.connections.entries c.args.conn (rw (← c.self.view_is) at c.requires.connected) (sym c.in_default-get_mut.ensures.value))

pub invariant_of-self-2 : goal.invariant_of-self-2
invariant_of-self-2 c =
    let there : lookup (nat_eq c.args.number) c.self.inside.sessions.entries ≡ Some c.in-Some.session.now = sym c.in-Some.ensures.value in
    let x : KeptSession = record c.in-Some.session.now { condition = condition.Attached c.args.conn } in
    let w = c.get_mut.follows.holds x in
    let at : lookup (nat_eq c.args.conn) c.self.inside.connections.entries ≡ Some c.in-Some-get_mut.connection.now = sym c.in-Some-get_mut.ensures.value in
    let l : KeptConnection = record c.in-Some-get_mut.connection.now { session = Some c.args.number } in
    let v = c.get_mut-2.follows.holds l in
    let free : session_at c.self.inside.connections.entries c.args.conn ≡ None =
    free-kept c.self.inside.made c.self.inside.connections.entries c.self.inside.sessions.entries c.self.invariant.0 c.args.conn (rw (← c.self.view_is) at c.requires.free) in
    let off = off-there c.self.inside.sessions.entries c.args.number c.in-Some.session.now (rw (← c.self.view_is) at c.requires.there) there in (
      IsKept-joined _ _ _ _ _ c.args.conn c.args.number l x c.in-Some.session.now c.self.invariant.0 free there off refl refl
          v.4 (v.3 (rw at refl)).0 w.4 (w.3 (rw there refl)).0,
      AreHeld-set _ _ _ c.args.number (Some x) c.self.invariant.1 (w.3 (rw there refl)).0 (held-at _ _ c.args.number c.in-Some.session.now c.self.invariant.1 there),
    )

pub returns : goal.returns
returns c =
    let there : lookup (nat_eq c.args.number) c.self.inside.sessions.entries ≡ Some c.in-Some.session.now = sym c.in-Some.ensures.value in
    let x : KeptSession = record c.in-Some.session.now { condition = condition.Attached c.args.conn } in
    let w = c.get_mut.follows.holds x in
    let at : lookup (nat_eq c.args.conn) c.self.inside.connections.entries ≡ Some c.in-Some-get_mut.connection.now = sym c.in-Some-get_mut.ensures.value in
    let l : KeptConnection = record c.in-Some-get_mut.connection.now { session = Some c.args.number } in
    let v = c.get_mut-2.follows.holds l in
    rw (
      ← c.self.view_is,
      v.0,
      tied-kept c.self.inside.connections.entries c.args.conn c.in-Some-get_mut.connection.now (Some c.args.number) at,
      w.0,
      joined-kept c.self.inside.sessions.entries c.args.conn c.args.number c.in-Some.session.now c.self.invariant.0.sessions_once there,
    ) refl
