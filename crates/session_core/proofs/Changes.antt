-- What each change of connections and sessions leaves.
use Rattle.std.proofs.Common.{◌≡◌, ℕ, ◌+◌, ◌<◌, ◌^◌, List, Bool, true, false, cond, Option, Some, None, is_some, refl, ap, subst, ◌∙◌, arith, nat_eq, inl, inr, eqb-true}
use Rattle.std.specs.Option.{option_and_then}
use Rattle.std.specs.List.{IsDistinct}
use Rattle.std.specs.Map.{lookup, keys_of}
use Rattle.std.proofs.lemmas.Bool.{cases_Bool}
use Rattle.std.proofs.lemmas.Bool.Decides.{nat_tests}
use Rattle.session_core.specs.declared.kept.Connection.{Connection as KeptConnection}
use Rattle.session_core.specs.declared.kept.Session.{Session as KeptSession}
use Rattle.session_core.specs.Kept.{conn_of, session_at, conn_at, Agree, IsKept}

-- ---- how two functions agree

pub Agree-same : (f g f' g' : ℕ → Option ℕ) → Agree f g → ((c : ℕ) → f' c ≡ f c) → ((n : ℕ) → g' n ≡ g n) → Agree f' g'
Agree-same f g f' g' both fs gs c n = rw (fs c, gs n) (both c n)

pub Agree-cut : (f g f' g' : ℕ → Option ℕ) (c n : ℕ) → Agree f g → f c ≡ Some n
    → ((k : ℕ) → f' k ≡ cond (nat_eq c k) None (f k)) → ((m : ℕ) → g' m ≡ cond (nat_eq n m) None (g m)) → Agree f' g'
Agree-cut f g f' g' c n both on fs gs k m =
    grind (arith, nat_tests, on, fs k, gs m, both k m, both c m, both c n, both k n)

pub Agree-tie : (f g f' g' : ℕ → Option ℕ) (c n : ℕ) → Agree f g → f c ≡ None → g n ≡ None
    → ((k : ℕ) → f' k ≡ cond (nat_eq c k) (Some n) (f k)) → ((m : ℕ) → g' m ≡ cond (nat_eq n m) (Some c) (g m)) → Agree f' g'
Agree-tie f g f' g' c n both free new fs gs k m =
    grind (arith, nat_tests, free, new, fs k, gs m, both k m, both c m, both k n)

-- ---- how a change of one entry shows

abbrev pub IsSetAt : {V : Type 0} → ℕ → Option V → List (ℕ × V) → List (ℕ × V) → Type 0
IsSetAt c w old new = (q : ℕ) → lookup (nat_eq q) new ≡ cond (nat_eq c q) w (lookup (nat_eq q) old)

abbrev session_in : Option KeptConnection → Option ℕ
session_in None = None
session_in (Some l) = l.session

abbrev conn_in : Option KeptSession → Option ℕ
conn_in None = None
conn_in (Some x) = conn_of x.condition

at_connection : (n o : Option KeptConnection) (b : Bool) (w : Option KeptConnection) → n ≡ cond b w o
    → option_and_then (λ (l : KeptConnection). l.session) n ≡ cond b (session_in w) (option_and_then (λ (l : KeptConnection). l.session) o)
at_connection n o true None e = rw e refl
at_connection n o true (Some l) e = rw e refl
at_connection n o false w e = rw e refl

at_session : (n o : Option KeptSession) (b : Bool) (w : Option KeptSession) → n ≡ cond b w o
    → option_and_then (λ (x : KeptSession). conn_of x.condition) n ≡ cond b (conn_in w) (option_and_then (λ (x : KeptSession). conn_of x.condition) o)
at_session n o true None e = rw e refl
at_session n o true (Some x) e = rw e refl
at_session n o false w e = rw e refl

pub session_at-set : (old new : List (ℕ × KeptConnection)) (c : ℕ) (w : Option KeptConnection) → IsSetAt c w old new
    → (k : ℕ) → session_at new k ≡ cond (nat_eq c k) (session_in w) (session_at old k)
session_at-set old new c w is k = at_connection (lookup (nat_eq k) new) (lookup (nat_eq k) old) (nat_eq c k) w (is k)

pub conn_at-set : (old new : List (ℕ × KeptSession)) (n : ℕ) (w : Option KeptSession) → IsSetAt n w old new
    → (m : ℕ) → conn_at new m ≡ cond (nat_eq n m) (conn_in w) (conn_at old m)
conn_at-set old new n w is m = at_session (lookup (nat_eq m) new) (lookup (nat_eq m) old) (nat_eq n m) w (is m)

unchanged : (f : ℕ → Option ℕ) (c k : ℕ) (w : Option ℕ) → w ≡ f c → cond (nat_eq c k) w (f k) ≡ f k
unchanged f c k w same = elim (cases_Bool (nat_eq c k)) [
  | inl is ↦ rw (is, same) (ap f (eqb-true c k is))
  | inr apart ↦ rw apart refl
]

-- ---- what is kept

-- a session that exists has no new number
pub is_apart : (made : ℕ) (old : List (ℕ × KeptSession)) (n m : ℕ) → ((k : ℕ) → made < k → lookup (nat_eq k) old ≡ None) → is_some (lookup (nat_eq n) old) ≡ true → made < m
    → nat_eq n m ≡ false
is_apart made old n m counted there above = elim (cases_Bool (nat_eq n m)) [
  | inl same ↦
      let P : ℕ → Type 0 = λ k. is_some (lookup (nat_eq k) old) ≡ true in
      let here : is_some (lookup (nat_eq m) old) ≡ true = subst P (eqb-true n m same) there in
      let none : lookup (nat_eq m) old ≡ None = counted m above in
      absurd (grind (arith, none, here))
  | inr apart ↦ apart
]

-- a connection without a session is opened or removed, or has a heartbeat
pub IsKept-connection : (made : ℕ) (old new : List (ℕ × KeptConnection)) (sessions : List (ℕ × KeptSession)) (c : ℕ) (w : Option KeptConnection)
    → IsKept made old sessions → IsDistinct nat_eq (keys_of new) → IsSetAt c w old new → session_in w ≡ session_at old c → IsKept made new sessions
IsKept-connection made old new sessions c w kept once is same = record {
  connections_once = once;
  sessions_once = kept.sessions_once;
  counted = kept.counted;
  agree = Agree-same (session_at old) (conn_at sessions) (session_at new) (conn_at sessions) kept.agree
      (λ k. session_at-set old new c w is k ∙ unchanged (session_at old) c k (session_in w) same) (λ n. refl);
  small = kept.small;
}

-- a session has another count, and its condition stays
pub IsKept-session : (made : ℕ) (connections : List (ℕ × KeptConnection)) (old new : List (ℕ × KeptSession)) (n : ℕ) (x : KeptSession)
    → IsKept made connections old → IsDistinct nat_eq (keys_of new) → IsSetAt n (Some x) old new
    → is_some (lookup (nat_eq n) old) ≡ true → conn_of x.condition ≡ conn_at old n → IsKept made connections new
IsKept-session made connections old new n x kept once is there same = record {
  connections_once = kept.connections_once;
  sessions_once = once;
  counted = λ m above. is m ∙ (let apart : nat_eq n m ≡ false = is_apart made old n m kept.counted there above in rw apart (kept.counted m above));
  agree = Agree-same (session_at connections) (conn_at old) (session_at connections) (conn_at new) kept.agree
      (λ k. refl) (λ m. conn_at-set old new n (Some x) is m ∙ unchanged (conn_at old) n m (conn_of x.condition) same);
  small = kept.small;
}

-- a connection is removed, and its session is detached
pub IsKept-cut : (made : ℕ) (connections connections' : List (ℕ × KeptConnection)) (old new : List (ℕ × KeptSession)) (c n : ℕ) (x : KeptSession)
    → IsKept made connections old → session_at connections c ≡ Some n → conn_of x.condition ≡ None
    → is_some (lookup (nat_eq n) old) ≡ true
    → IsDistinct nat_eq (keys_of connections') → IsSetAt c None connections connections'
    → IsDistinct nat_eq (keys_of new) → IsSetAt n (Some x) old new
    → IsKept made connections' new
IsKept-cut made connections connections' old new c n x kept on off there once is once' is' = record {
  connections_once = once;
  sessions_once = once';
  counted = λ m above. is' m ∙ (let apart : nat_eq n m ≡ false = is_apart made old n m kept.counted there above in rw apart (kept.counted m above));
  agree = Agree-cut (session_at connections) (conn_at old) (session_at connections') (conn_at new) c n kept.agree on
      (session_at-set connections connections' c None is) (λ m. conn_at-set old new n (Some x) is' m ∙ ap (λ w. cond (nat_eq n m) w (conn_at old m)) off);
  small = kept.small;
}

-- a connection without a session gets a new one
pub IsKept-tie : (made : ℕ) (connections connections' : List (ℕ × KeptConnection)) (old new : List (ℕ × KeptSession)) (c : ℕ) (l : KeptConnection) (x : KeptSession)
    → IsKept made connections old → made + 1 < 2 ^ 32 → session_at connections c ≡ None → l.session ≡ Some (made + 1) → conn_of x.condition ≡ Some c
    → IsDistinct nat_eq (keys_of connections') → IsSetAt c (Some l) connections connections'
    → IsDistinct nat_eq (keys_of new) → IsSetAt (made + 1) (Some x) old new
    → IsKept (made + 1) connections' new
IsKept-tie made connections connections' old new c l x kept room free here there once is once' is' = record {
  connections_once = once;
  sessions_once = once';
  counted = λ m above. is' m ∙ (let apart : nat_eq (made + 1) m ≡ false = grind (arith, nat_tests, above) in rw apart (kept.counted m (omega arith)));
  agree = Agree-tie (session_at connections) (conn_at old) (session_at connections') (conn_at new) c (made + 1) kept.agree free new_number
      (λ k. session_at-set connections connections' c (Some l) is k ∙ ap (λ w. cond (nat_eq c k) w (session_at connections k)) here)
      (λ m. conn_at-set old new (made + 1) (Some x) is' m ∙ ap (λ w. cond (nat_eq (made + 1) m) w (conn_at old m)) there);
  small = room;
}
  where
    new_number : conn_at old (made + 1) ≡ None
    new_number = rw (kept.counted (made + 1) (omega arith)) refl

-- ---- one connection has a heartbeat

-- the connection, with a heartbeat at a moment
abbrev pub connection_after_heartbeat : KeptConnection → ℕ → KeptConnection
connection_after_heartbeat l now = record l { last_heartbeat_ms = now }

pub IsKept-after_heartbeat : (made : ℕ) (old new : List (ℕ × KeptConnection)) (sessions : List (ℕ × KeptSession)) (c now : ℕ) (l : KeptConnection)
    → IsKept made old sessions → lookup (nat_eq c) old ≡ Some l → IsDistinct nat_eq (keys_of new) → IsSetAt c (Some (connection_after_heartbeat l now)) old new
    → IsKept made new sessions
IsKept-after_heartbeat made old new sessions c now l kept there once is =
    IsKept-connection made old new sessions c (Some (connection_after_heartbeat l now)) kept once is (rw there refl)
