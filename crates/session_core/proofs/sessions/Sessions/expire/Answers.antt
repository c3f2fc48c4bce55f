use Rattle.std.proofs.Common.{refl, rules}
use Rattle.indexmap.proofs.CallerLemmas.{filter-RetainsPairs}
use Rattle.session_core.proofs.Endings.{is_due, expired-kept, IsKept-expired, AreHeld-expired}
use Rattle.session_core.proofs.sessions.Sessions.expire.Goals as goal

pub invariant_of-self : goal.invariant_of-self
invariant_of-self c =
    let left = filter-RetainsPairs _ (λ e. is_due c.args.now e.1) _ (λ k v b w g call. search rules) _ _ c.retain.ensures.filtered in
    rw left (
      IsKept-expired c.self.inside.made c.args.now c.self.inside.connections.entries c.self.inside.sessions.entries c.self.invariant.0,
      AreHeld-expired c.self.inside.worker c.args.now c.self.inside.sessions.entries c.self.invariant.0.sessions_once c.self.invariant.1,
    )

pub returns : goal.returns
returns c =
    let left = filter-RetainsPairs _ (λ e. is_due c.args.now e.1) _ (λ k v b w g call. search rules) _ _ c.retain.ensures.filtered in
    rw (← c.self.view_is, left, expired-kept c.self.inside.sessions.entries c.args.now) refl
