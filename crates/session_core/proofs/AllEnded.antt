-- All sessions end.
use Rattle.std.proofs.Common.{◌≡◌, ℕ, List, [], ◌∷◌, map, filter, not, true, false, Bool, cond, Option, Some, None, is_some, refl, sym, ap, ◌∙◌, nat_eq, slice_get}
use Rattle.std.specs.Prelude.{flat_map, if◌then◌else◌}
use Rattle.std.specs.Option.{option_and_then}
use Rattle.std.specs.List.{find, IsDistinct}
use Rattle.std.specs.Map.{lookup, keys_of}
use Rattle.std.specs.Cmp.{nat_eq_equiv}
use Rattle.std.proofs.lemmas.Map.Entries.{option_filter, lookup-filter-values, lookup_from_place}
use Rattle.std.proofs.lemmas.Map.Made.{IsDistinct-keys_filter}
use Rattle.std.proofs.lemmas.Option.{none-some}
use Rattle.session_core.specs.declared.kept.Connection.{Connection as KeptConnection}
use Rattle.session_core.specs.declared.kept.Session.{Session as KeptSession}
use Rattle.replay_ring.specs.Replay.{Replay}
use Rattle.session_core.specs.State.{Connection, Session, is_on}
use Rattle.session_core.specs.Ends.{ended_if_live}
use Rattle.session_core.specs.Kept.{connection_of, session_of, session_at, IsKept}
use Rattle.session_core.proofs.Entries.{once-after, lookup-here, lookup-later, is_live-condition}
use Rattle.session_core.proofs.Sides.{session_at-is, has_session-kept}

-- a connection without a session
abbrev pub has_none : KeptConnection → Bool
has_none l = not (is_some l.session)

-- ---- the connections that stay, where a test says which have a session

pub without_sessions : (has : ℕ → Bool) (es : List (ℕ × KeptConnection)) → IsDistinct nat_eq (keys_of es)
    → ((k : ℕ) (l : KeptConnection) → lookup (nat_eq k) es ≡ Some l → has k ≡ is_some l.session)
    → map connection_of (filter (λ e. has_none e.1) es) ≡ filter (λ (l : Connection). not (has l.number)) (map connection_of es)
without_sessions has [] once is = refl
without_sessions has (e ∷ es) once is =
    let own : has e.0 ≡ is_some e.1.session = is e.0 e.1 (lookup-here e es) in
    rw own (by_test (is_some e.1.session) (without_sessions has es (once-after e es once) (λ k l there. is k l (lookup-later e es k l once there))))
  where
    by_test : (b : Bool) → map connection_of (filter (λ e. has_none e.1) es) ≡ filter (λ (l : Connection). not (has l.number)) (map connection_of es)
        → map connection_of (if not b then e ∷ filter (λ e. has_none e.1) es else filter (λ e. has_none e.1) es)
        ≡ (if not b then connection_of e ∷ filter (λ (l : Connection). not (has l.number)) (map connection_of es) else filter (λ (l : Connection). not (has l.number)) (map connection_of es))
    by_test true rest = rest
    by_test false rest = ap (λ ls. connection_of e ∷ ls) rest

pub none_live : (es : List (ℕ × KeptSession)) → flat_map (ended_if_live (λ (x : Session Replay). [])) (map session_of es) ≡ []
none_live [] = refl
none_live (e ∷ es) = rw (is_live-condition e.1.condition) (none_live es)

-- ---- what is kept then

none_in : (o : Option KeptConnection) → option_and_then (λ (l : KeptConnection). l.session) (option_filter has_none o) ≡ None
none_in None = refl
none_in (Some l) = by_session l.session
  where
    by_session : (o : Option ℕ) → option_and_then (λ (l : KeptConnection). l.session) (cond (not (is_some o)) (Some (record l { session = o })) None) ≡ None
    by_session None = refl
    by_session (Some n) = refl

nothing_twice : IsDistinct nat_eq []
unfolding IsDistinct
nothing_twice = tt

pub IsKept-ended : (made : ℕ) (connections : List (ℕ × KeptConnection)) (sessions : List (ℕ × KeptSession)) → IsKept made connections sessions
    → IsKept made (filter (λ e. has_none e.1) connections) []
IsKept-ended made connections sessions kept = record {
  connections_once = IsDistinct-keys_filter nat_eq (λ e. has_none e.1) connections kept.connections_once;
  sessions_once = nothing_twice;
  counted = λ m above. refl;
  agree = λ c n. ((λ on. absurd (none-some n (sym (free c) ∙ on))), (λ on. absurd (none-some c on)));
  small = kept.small;
}
  where
    free : (c : ℕ) → session_at (filter (λ e. has_none e.1) connections) c ≡ None
    free c =
        ap (option_and_then (λ (l : KeptConnection). l.session)) (lookup-filter-values nat_eq_equiv has_none c connections kept.connections_once)
        ∙ none_in (lookup (nat_eq c) connections)

-- ---- which connections have a session

module _ (made : ℕ) (connections : List (ℕ × KeptConnection)) (sessions : List (ℕ × KeptSession)) (kept : IsKept made connections sessions) where
  pub has_session-at : (k : ℕ) (l : KeptConnection) → lookup (nat_eq k) connections ≡ Some l
      → is_some (find (λ (x : Session Replay). is_on k x.condition) (map session_of sessions)) ≡ is_some l.session
  has_session-at k l there = sym (has_session-kept made connections sessions kept k l.session (session_at-is connections k l there))

  pub has_session-index : (i k : ℕ) (l : KeptConnection) → slice_get connections i ≡ Some (k, l)
      → is_some (find (λ (x : Session Replay). is_on k x.condition) (map session_of sessions)) ≡ is_some l.session
  has_session-index i k l at = has_session-at k l (lookup_from_place nat_eq_equiv connections i k l kept.connections_once at)
