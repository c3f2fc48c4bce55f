-- A connection and its session, each seen from the other.
use Rattle.std.proofs.Common.{◌≡◌, ℕ, List, map, false, Option, Some, None, is_some, refl, sym, ◌∙◌, nat_eq}
use Rattle.std.specs.Option.{option_map}
use Rattle.std.specs.List.{find}
use Rattle.std.specs.Map.{lookup}
use Rattle.std.proofs.lemmas.Option.{none-some, same_Some}
use Rattle.session_core.specs.declared.kept.Connection.{Connection as KeptConnection}
use Rattle.session_core.specs.declared.kept.Session.{Session as KeptSession}
use Rattle.replay_ring.specs.Replay.{Replay}
use Rattle.session_core.specs.State.{Session, is_on}
use Rattle.session_core.specs.Kept.{session_of, conn_of, session_at, conn_at, IsKept}
use Rattle.session_core.proofs.Entries.{on-none, on-some, number-on}

pub session_at-is : (connections : List (ℕ × KeptConnection)) (c : ℕ) (l : KeptConnection) → lookup (nat_eq c) connections ≡ Some l → session_at connections c ≡ l.session
session_at-is connections c l there = rw there refl

pub session_at-absent : (connections : List (ℕ × KeptConnection)) (c : ℕ) → lookup (nat_eq c) connections ≡ None → session_at connections c ≡ None
session_at-absent connections c absent = rw absent refl

no_value : (o : Option ℕ) → is_some o ≡ false → o ≡ None
no_value None none = refl
no_value (Some n) none = cc

module _ (made : ℕ) (connections : List (ℕ × KeptConnection)) (sessions : List (ℕ × KeptSession)) (kept : IsKept made connections sessions) (c : ℕ) where
  pub off-kept : session_at connections c ≡ None → (n : ℕ) → conn_at sessions n ≡ Some c → ⊥
  off-kept free n on = none-some n (sym free ∙ (kept.agree c n).1 on)

  pub only-kept : (n : ℕ) → session_at connections c ≡ Some n → (m : ℕ) → conn_at sessions m ≡ Some c → m ≡ n
  only-kept n is m on = same_Some m n (sym ((kept.agree c m).1 on) ∙ is)

  pub there-kept : (n : ℕ) → session_at connections c ≡ Some n → lookup (nat_eq n) sessions ≡ None → ⊥
  there-kept n is absent =
      let on : conn_at sessions n ≡ Some c = (kept.agree c n).0 is in
      let off : conn_at sessions n ≡ None = rw absent refl in
      none-some c (sym off ∙ on)

  pub on-kept : (n : ℕ) (x : KeptSession) → session_at connections c ≡ Some n → lookup (nat_eq n) sessions ≡ Some x → conn_of x.condition ≡ Some c
  on-kept n x is there =
      let on : conn_at sessions n ≡ Some c = (kept.agree c n).0 is in
      rw there at on

  pub has_session-kept : (o : Option ℕ) → session_at connections c ≡ o → is_some o ≡ is_some (find (λ (x : Session Replay). is_on c x.condition) (map session_of sessions))
  has_session-kept None free = rw (on-none sessions c kept.sessions_once (off-kept free)) refl
  has_session-kept (Some n) is = sym (on-some sessions c n ((kept.agree c n).0 is))

  pub number-kept : (o : Option ℕ) → session_at connections c ≡ o → o ≡ option_map (λ (x : Session Replay). x.number) (find (λ (x : Session Replay). is_on c x.condition) (map session_of sessions))
  number-kept None free = rw (on-none sessions c kept.sessions_once (off-kept free)) refl
  number-kept (Some n) is = sym (number-on sessions c n kept.sessions_once (only-kept n is) ((kept.agree c n).0 is))

  pub free-kept : is_some (find (λ (x : Session Replay). is_on c x.condition) (map session_of sessions)) ≡ false → session_at connections c ≡ None
  free-kept off =
      let none : is_some (session_at connections c) ≡ false = has_session-kept (session_at connections c) refl ∙ off in
      no_value (session_at connections c) none
