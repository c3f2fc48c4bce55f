use Rattle.std.proofs.Common.{◌≡◌, ◌+◌, ◌-◌, ◌<◌, ◌^◌, nat_eq, None, Some, refl, sym, ◌∙◌, arith}
use Rattle.std.specs.Map.{lookup}
use Rattle.indexmap.proofs.CallerLemmas.{insert_entry-new}
use Rattle.session_core.specs.declared.kept.Connection.{Connection as KeptConnection}
use Rattle.session_core.specs.Kept.{session_of, session_at}
use Rattle.session_core.proofs.Entries.{open-absent, added-kept, tied-kept}
use Rattle.session_core.proofs.Changes.{IsKept-tie}
use Rattle.session_core.proofs.Sides.{free-kept}
use Rattle.session_core.proofs.Held.{AreHeld-set}
use Rattle.session_core.proofs.sessions.Sessions.add_session.Goals as goal

pub invariant_of-self-in_default : goal.invariant_of-self-in_default
invariant_of-self-in_default c =
    absurd (open-absent c.self.inside.connections.entries c.args.conn (rw (← c.self.view_is) at c.requires.connected) (sym c.in_default.ensures.value))

pub returns-in_default-clause-ok : goal.returns-in_default-clause-ok
returns-in_default-clause-ok c =
    absurd (open-absent c.self.inside.connections.entries c.args.conn (rw (← c.self.view_is) at c.requires.connected) (sym c.in_default.ensures.value))

pub invariant_of-self-2 : goal.invariant_of-self-2
invariant_of-self-2 c =
    let there : lookup (nat_eq c.args.conn) c.self.inside.connections.entries ≡ Some c.in-Some.connection.now = sym c.in-Some.ensures.value in
    let l : KeptConnection = record c.in-Some.connection.now { session = Some (c.self.inside.made + 1) } in
    let w = c.get_mut.follows.holds l in
    let h = c.in_ok-insert.ensures in
    let free : session_at c.self.inside.connections.entries c.args.conn ≡ None =
    free-kept c.self.inside.made c.self.inside.connections.entries c.self.inside.sessions.entries c.self.invariant.0 c.args.conn (rw (← c.self.view_is) at c.requires.free) in
    let below : c.self.inside.made < 2 ^ 32 - 1 = rw (← c.self.view_is) at c.requires.counted in
    let room : c.self.inside.made + 1 < 2 ^ 32 = omega (arith, below) in (
      IsKept-tie c.self.inside.made c.self.inside.connections.entries (c.get_mut.follows.lender l).entries c.self.inside.sessions.entries c.insert.new.self.entries
          c.args.conn l c.new-session.result c.self.invariant.0 room free refl (rw c.new-session.ensures refl) w.4 (w.3 (rw there refl)).0 h.unique h.updates.0,
      AreHeld-set c.self.inside.worker _ _ (c.self.inside.made + 1) (Some c.new-session.result) c.self.invariant.1 h.updates.0
          (rw (c.new-session.ensures, c.in_ok-holder.ensures) refl),
    )

pub returns-clause-ok : goal.returns-clause-ok
returns-clause-ok c =
    let there : lookup (nat_eq c.args.conn) c.self.inside.connections.entries ≡ Some c.in-Some.connection.now = sym c.in-Some.ensures.value in
    let l : KeptConnection = record c.in-Some.connection.now { session = Some (c.self.inside.made + 1) } in
    let w = c.get_mut.follows.holds l in
    let h = c.in_ok-insert.ensures in
    let new : lookup (nat_eq (c.self.inside.made + 1)) c.self.inside.sessions.entries ≡ None = c.self.invariant.0.counted (c.self.inside.made + 1) (omega arith) in
    let sessions = added-kept session_of c.self.inside.sessions.entries c.insert.new.self.entries (c.self.inside.made + 1, c.new-session.result)
    (h.entries ∙ insert_entry-new nat_eq c.self.inside.sessions (c.self.inside.made + 1) c.new-session.result new) in
    rw (← c.self.view_is, w.0, tied-kept c.self.inside.connections.entries c.args.conn c.in-Some.connection.now (Some (c.self.inside.made + 1)) there, sessions, c.new-session.ensures, c.in_ok-sent.ensures, c.in_ok-holder.ensures) refl
