-- The live session of the number is one dispatch further, unless it has had as many as it can count.
use Rattle.std.proofs.Common.{◌≡◌, nat_eq, Some, refl, sym, ap, arith}
use Rattle.std.specs.Map.{lookup}
use Rattle.std.proofs.lemmas.Bool.Decides.{nat_tests}
use Rattle.replay_ring.specs.Replay.{pushed}
use Rattle.session_core.specs.declared.kept.Session.{Session as KeptSession}
use Rattle.session_core.proofs.Changes.{IsKept-session}
use Rattle.session_core.proofs.Held.{AreHeld-set, held-at}
use Rattle.session_core.proofs.Indexes.{attached-kept}
use Rattle.session_core.proofs.Numbered.{numbered-kept, numbers-kept, further-kept, same-kept, not-numbered}
use Rattle.session_core.proofs.sessions.Sessions.push.Goals as goal

pub returns-in_default-clause-conn : goal.returns-in_default-clause-conn
returns-in_default-clause-conn c = absurd (not-numbered c.self.inside.sessions.entries c.args.session (rw (← c.self.view_is) at c.requires) (sym c.in_default.ensures.value))

pub returns-in_default-clause-pushed : goal.returns-in_default-clause-pushed
returns-in_default-clause-pushed c = absurd (not-numbered c.self.inside.sessions.entries c.args.session (rw (← c.self.view_is) at c.requires) (sym c.in_default.ensures.value))

pub returns-in_default-clause-spent : goal.returns-in_default-clause-spent
returns-in_default-clause-spent c = absurd (not-numbered c.self.inside.sessions.entries c.args.session (rw (← c.self.view_is) at c.requires) (sym c.in_default.ensures.value))

pub invariant_of-self-then-last : goal.invariant_of-self-then-last
invariant_of-self-then-last c =
    let there : lookup (nat_eq c.args.session) c.self.inside.sessions.entries ≡ Some c.in-Some.session.now = sym c.in-Some.ensures.value in
    let w = c.get_mut.follows.holds c.in-Some.session.now in (
      IsKept-session _ _ _ _ c.args.session c.in-Some.session.now c.self.invariant.0 w.4 (w.3 (rw there refl)).0 (rw there refl) (rw there refl),
      AreHeld-set _ _ _ c.args.session (Some c.in-Some.session.now) c.self.invariant.1 (w.3 (rw there refl)).0 (held-at _ _ c.args.session c.in-Some.session.now c.self.invariant.1 there),
    )

pub returns-then-last-clause-spent : goal.returns-then-last-clause-spent
returns-then-last-clause-spent c =
    let there : lookup (nat_eq c.args.session) c.self.inside.sessions.entries ≡ Some c.in-Some.session.now = sym c.in-Some.ensures.value in
    rw (← c.self.view_is, numbered-kept c.self.inside.sessions.entries c.args.session, there) (grind (arith, nat_tests, c.last.ensures, c.if-last.true))

pub returns-then-last-clause-err : goal.returns-then-last-clause-err
returns-then-last-clause-err c =
    let there : lookup (nat_eq c.args.session) c.self.inside.sessions.entries ≡ Some c.in-Some.session.now = sym c.in-Some.ensures.value in
    let w = c.get_mut.follows.holds c.in-Some.session.now in
    rw (← c.self.view_is, w.0, same-kept c.self.inside.sessions.entries c.args.session c.in-Some.session.now there) refl

pub invariant_of-self-2 : goal.invariant_of-self-2
invariant_of-self-2 c =
    let there : lookup (nat_eq c.args.session) c.self.inside.sessions.entries ≡ Some c.in-Some.session.now = sym c.in-Some.ensures.value in
    let x : KeptSession = record c.in-Some.session.now { sent = c.push.new.self } in
    let w = c.get_mut.follows.holds x in (
      IsKept-session _ _ _ _ c.args.session x c.self.invariant.0 w.4 (w.3 (rw there refl)).0 (rw there refl) (rw there refl),
      AreHeld-set _ _ _ c.args.session (Some x) c.self.invariant.1 (w.3 (rw there refl)).0 (held-at _ _ c.args.session c.in-Some.session.now c.self.invariant.1 there),
    )

pub returns-clause-conn : goal.returns-clause-conn
returns-clause-conn c =
    let there : lookup (nat_eq c.args.session) c.self.inside.sessions.entries ≡ Some c.in-Some.session.now = sym c.in-Some.ensures.value in
    rw (← c.self.view_is, numbered-kept c.self.inside.sessions.entries c.args.session, there, c.conn.ensures) (ap Some (attached-kept c.in-Some.session.now.condition))

pub returns-clause-pushed : goal.returns-clause-pushed
returns-clause-pushed c =
    let there : lookup (nat_eq c.args.session) c.self.inside.sessions.entries ≡ Some c.in-Some.session.now = sym c.in-Some.ensures.value in
    let x : KeptSession = record c.in-Some.session.now { sent = pushed c.in-Some.session.now.sent c.args.text } in
    let w = c.get_mut.follows.holds x in
    rw (
      ← c.self.view_is,
      c.push.ensures,
      w.0,
      further-kept c.self.inside.sessions.entries c.args.session c.args.text c.in-Some.session.now c.self.invariant.0.sessions_once there,
    ) refl

pub returns-clause-spent : goal.returns-clause-spent
returns-clause-spent c =
    let there : lookup (nat_eq c.args.session) c.self.inside.sessions.entries ≡ Some c.in-Some.session.now = sym c.in-Some.ensures.value in
    rw (← c.self.view_is, numbered-kept c.self.inside.sessions.entries c.args.session, there) (grind (arith, nat_tests, c.last.ensures, c.if-last.false))

pub returns-in_default-clause-room : goal.returns-in_default-clause-room
returns-in_default-clause-room c = absurd (not-numbered c.self.inside.sessions.entries c.args.session (rw (← c.self.view_is) at c.requires) (sym c.in_default.ensures.value))

pub returns-clause-room : goal.returns-clause-room
returns-clause-room c =
    let there : lookup (nat_eq c.args.session) c.self.inside.sessions.entries ≡ Some c.in-Some.session.now = sym c.in-Some.ensures.value in
    rw (← c.self.view_is, numbered-kept c.self.inside.sessions.entries c.args.session, there) (grind (arith, nat_tests, c.last.ensures, c.if-last.false))

pub returns-in_default-clause-once : goal.returns-in_default-clause-once
returns-in_default-clause-once c = rw (← c.self.view_is, numbers-kept c.self.inside.sessions.entries) c.self.invariant.0.sessions_once

pub returns-then-last-clause-once : goal.returns-then-last-clause-once
returns-then-last-clause-once c = rw (← c.self.view_is, numbers-kept c.self.inside.sessions.entries) c.self.invariant.0.sessions_once

pub returns-clause-once : goal.returns-clause-once
returns-clause-once c = rw (← c.self.view_is, numbers-kept c.self.inside.sessions.entries) c.self.invariant.0.sessions_once
