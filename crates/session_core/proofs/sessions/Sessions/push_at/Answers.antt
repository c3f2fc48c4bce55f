use Rattle.std.proofs.Common.{◌≡◌, ◌^◌, ◌-◌, true, nat_lt, refl, arith}
use Rattle.std.proofs.lemmas.Bool.Decides.{nat_tests}
use Rattle.session_core.specs.declared.kept.Session.{Session as KeptSession}
use Rattle.session_core.proofs.Indexes.{set-kept, at-kept, IsKept-counted, AreHeld-counted}
use Rattle.session_core.proofs.sessions.Sessions.push_at.Goals as goal

-- the session is the one that has a further number
pub push-requires : goal.push-requires
push-requires c =
    let x = c.pair_mut-session.result.1.now in
    let at = at-kept c.self.inside.sessions.entries c.args.index c.pair_mut-session.result.0.now x c.pair_mut-session.ensures.value in
    let room : nat_lt x.sent.last (2 ^ 64 - 1) ≡ true = rw (← c.self.view_is, at) at c.requires.room in
    grind (arith, nat_tests)

pub invariant_of-self : goal.invariant_of-self
invariant_of-self c =
    let x = c.pair_mut-session.result.1.now in
    let y : KeptSession = record x { sent = c.push.new.self } in (
      IsKept-counted c.self.inside.made c.self.inside.connections.entries c.self.inside.sessions c.args.index c.pair_mut-session.result.0.now x y
          c.self.invariant.0 c.pair_mut-session.ensures.value refl,
      AreHeld-counted c.self.inside.worker c.self.inside.sessions c.args.index c.pair_mut-session.result.0.now x y
          c.self.invariant.0.sessions_once c.self.invariant.1 c.pair_mut-session.ensures.value refl refl,
    )

pub returns : goal.returns
returns c =
    let x = c.pair_mut-session.result.1.now in
    let y : KeptSession = record x { sent = c.push.new.self } in
    let at = at-kept c.self.inside.sessions.entries c.args.index c.pair_mut-session.result.0.now x c.pair_mut-session.ensures.value in
    let set = set-kept c.self.inside.sessions.entries c.args.index c.pair_mut-session.result.0.now x y c.pair_mut-session.ensures.value in
    rw (← c.self.view_is, at, set, c.push.ensures) refl
