-- Only connections without a session are left.
use Rattle.std.proofs.Common.{map, is_some, refl, rules}
use Rattle.indexmap.proofs.CallerLemmas.{filter-RetainsPairs}
use Rattle.std.specs.List.{find}
use Rattle.replay_ring.specs.Replay.{Replay}
use Rattle.session_core.specs.State.{Session, is_on}
use Rattle.session_core.specs.Kept.{session_of}
use Rattle.session_core.proofs.AllEnded.{has_none, without_sessions, none_live, IsKept-ended, has_session-at}
use Rattle.session_core.proofs.sessions.Sessions.remove_sessions.Goals as goal

pub invariant_of-self : goal.invariant_of-self
invariant_of-self c =
    let left = filter-RetainsPairs _ (λ e. has_none e.1) _ (λ k v b w g call. search rules) _ _ c.retain.ensures.filtered in
    rw (left, c.clear.ensures.empty)
    (IsKept-ended c.self.inside.made c.self.inside.connections.entries c.self.inside.sessions.entries c.self.invariant.0, λ n. tt)

pub returns : goal.returns
returns c =
    let left = filter-RetainsPairs _ (λ e. has_none e.1) _ (λ k v b w g call. search rules) _ _ c.retain.ensures.filtered in
    rw (
      ← c.self.view_is,
      left,
      c.clear.ensures.empty,
      none_live c.self.inside.sessions.entries,
      without_sessions (λ k. is_some (find (λ (x : Session Replay). is_on k x.condition) (map session_of c.self.inside.sessions.entries))) c.self.inside.connections.entries c.self.invariant.0.connections_once
          (has_session-at c.self.inside.made c.self.inside.connections.entries c.self.inside.sessions.entries c.self.invariant.0),
    ) refl
