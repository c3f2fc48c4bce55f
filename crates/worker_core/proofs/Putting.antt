-- Entries that are handled one after another leave a replica once put, and sessions of which none has ended.
use Rattle.std.proofs.Common.{◌≡◌, ℕ, ◌≤◌, List, [], ◌∷◌, ◌++◌, suc, Bool, true, false, Some, if◌then◌else◌, length, map, refl, sym, ap, ◌∙◌, arith}
use Rattle.std.specs.Prelude.{◌==◌, ◌||◌, ◌&&◌, filter, flat_map}
use Rattle.std.specs.List.{list_any}
use Rattle.std.proofs.lemmas.Bool.{eqb-true}
use Rattle.collections.specs.ById.{find_id, put_id, IsById}
use Rattle.collections.proofs.Ids.{IsById-put}
use Rattle.collections.proofs.Finds.{same_by_id, find-put}
use Rattle.guild_model.specs.Record.{Record}
use Rattle.edit_apply.specs.Edits.{after, state_from}
use Rattle.edit_apply.specs.declared.Edit.{Edit}
use Rattle.replay_ring.specs.Replay.{Replay}
use Rattle.session_core.specs.State.{Session, is_live}
use Rattle.guild_replica.specs.Replicas.{GuildCopy}
use Rattle.worker_core.specs.InCode.{KeptMachine, in_code, replica_id, replica_of}
use Rattle.world_law.specs.Looks.{after_entry, entered, look_sends, looked}
use Rattle.world_law.specs.Spent.{entry_spends, look_spends}
use Rattle.world_law.proofs.Logs.{from_id}
use Rattle.worker_core.specs.Looked.{kept_looked, kept_sends, kept_spends, told_more, told_sends, told_spends}
use Rattle.world_law.proofs.Folds.{same_id}
use Rattle.world_law.specs.Keeping.{with_sessions}

-- ---- replicas

-- of two replicas of one guild the later one stays
pub put_twice : (x y : GuildCopy) (rs : List GuildCopy) → replica_id x ≡ replica_id y → IsById replica_id rs → put_id replica_id x (put_id replica_id y rs) ≡ put_id replica_id x rs
put_twice x y rs one h = same_by_id replica_id _ _ (IsById-put replica_id x _ (IsById-put replica_id y _ h)) (IsById-put replica_id x _ h)
    (λ id. find-put replica_id x id (put_id replica_id y rs)
    ∙ (ap (λ o. if replica_id x == id then Some x else o) (find-put replica_id y id rs)
    ∙ (by_test id (replica_id x == id) refl ∙ sym (find-put replica_id x id rs))))
  where
    by_test : (id : ℕ) (b : Bool) → (replica_id x == id) ≡ b
        → (if b then Some x else (if replica_id y == id then Some y else find_id replica_id id rs)) ≡ (if b then Some x else find_id replica_id id rs)
    by_test id true e = refl
    by_test id false e =
        let other : (replica_id y == id) ≡ false = ap (λ n. n == id) (sym one) ∙ e in
        ap (λ b. if b then Some y else find_id replica_id id rs) other

-- one that stands in a list is put into its own place
put_same : (x : GuildCopy) (rs : List GuildCopy) → find_id replica_id (replica_id x) rs ≡ Some x → IsById replica_id rs → put_id replica_id x rs ≡ rs
put_same x rs found h = same_by_id replica_id _ _ (IsById-put replica_id x _ h) h (λ id. find-put replica_id x id rs ∙ by_test id (replica_id x == id) refl)
  where
    by_test : (id : ℕ) (b : Bool) → (replica_id x == id) ≡ b → (if b then Some x else find_id replica_id id rs) ≡ find_id replica_id id rs
    by_test id true e = sym (ap (λ n. find_id replica_id n rs) (sym (eqb-true (replica_id x) id e)) ∙ found)
    by_test id false e = refl

abbrev pub puts : Record → List Edit → List GuildCopy → List GuildCopy
puts s [] rs = rs
puts s (e ∷ es) rs = puts (after s e) es (put_id replica_id (replica_of (after s e)) rs)

-- all that was put leaves the last
pub puts_once : (es : List Edit) (s : Record) (rs : List GuildCopy) → find_id replica_id s.id rs ≡ Some (replica_of s) → IsById replica_id rs → puts s es rs ≡ put_id replica_id (replica_of (state_from s es)) rs
puts_once [] s rs found h = sym (put_same (replica_of s) rs found h)
puts_once (e ∷ es) s rs found h =
    let next : GuildCopy = replica_of (after s e) in
    let there : find_id replica_id (after s e).id (put_id replica_id next rs) ≡ Some next =
    find-put replica_id next (after s e).id rs ∙ ap (λ b. if b then Some next else find_id replica_id (after s e).id rs) (same_id (after s e).id) in
    puts_once es (after s e) (put_id replica_id next rs) there (IsById-put replica_id next _ h)
    ∙ put_twice (replica_of (state_from (after s e) es)) next rs (from_id (after s e) es) h

-- ---- sessions of which none has ended

abbrev pub AreLive : List (Session Replay) → Type 0
AreLive [] = Unit {0}
AreLive (x ∷ xs) = (is_live x.condition ≡ true) × AreLive xs

few_live : (xs : List (Session Replay)) → length (filter (λ (x : Session Replay). is_live x.condition) xs) ≤ length xs
few_live [] = omega arith
few_live (x ∷ xs) = by_test (is_live x.condition) (few_live xs)
  where
    by_test : (b : Bool) → length (filter (λ (x : Session Replay). is_live x.condition) xs) ≤ length xs
        → length (if b then x ∷ filter (λ (x : Session Replay). is_live x.condition) xs else filter (λ (x : Session Replay). is_live x.condition) xs) ≤ suc (length xs)
    by_test true le = omega arith
    by_test false le = omega arith

-- as many are live as there are
pub all_live : (xs : List (Session Replay)) → length (filter (λ (x : Session Replay). is_live x.condition) xs) ≡ length xs → AreLive xs
all_live [] same = tt
all_live (x ∷ xs) same = by_test (is_live x.condition) refl same (all_live xs)
  where
    by_test : (b : Bool) → is_live x.condition ≡ b
        → length (if b then x ∷ filter (λ (x : Session Replay). is_live x.condition) xs else filter (λ (x : Session Replay). is_live x.condition) xs) ≡ suc (length xs)
        → (length (filter (λ (x : Session Replay). is_live x.condition) xs) ≡ length xs → AreLive xs) → (is_live x.condition ≡ true) × AreLive xs
    by_test true live same rest = (live, rest (omega (arith, same)))
    by_test false ended same rest = absurd (omega (arith, same, few_live xs))

module _ (s : Record) (e : Edit) where
  told_live : (xs : List (Session Replay)) → AreLive xs → AreLive (map (told_more s e) xs)
  told_live [] live = tt
  told_live (x ∷ xs) live = (live.0, told_live xs live.1)

  each_live : (rs : List GuildCopy) (g : ℕ) (xs : List (Session Replay)) → AreLive xs → map (after_entry in_code rs g s e) xs ≡ map (told_more s e) xs
  each_live rs g [] live = refl
  each_live rs g (x ∷ xs) live =
      ap (λ b. (if b then told_more s e x else x) ∷ map (after_entry in_code rs g s e) xs) live.0 ∙ ap (λ ys. told_more s e x ∷ ys) (each_live rs g xs live.1)

  each_counts : (xs : List (Session Replay)) → AreLive xs → list_any (entry_spends in_code s e) xs ≡ list_any (told_spends s e) xs
  each_counts [] live = refl
  each_counts (x ∷ xs) live =
      ap (λ b. (b && told_spends s e x) || list_any (entry_spends in_code s e) xs) live.0 ∙ ap (λ b. told_spends s e x || b) (each_counts xs live.1)

-- ---- entries in their order

pub looked_is : (es : List Edit) (k : KeptMachine) (g : ℕ) (s : Record) → AreLive k.core.sessions
    → looked in_code k g s es ≡ record k { logs = puts s es k.logs; core = with_sessions (kept_looked s es k.core.sessions) k.core }
looked_is [] k g s live = refl
looked_is (e ∷ es) k g s live =
    let told : List (Session Replay) = map (told_more s e) k.core.sessions in
    ap (λ xs. looked in_code (record k { logs = put_id replica_id (replica_of (after s e)) k.logs; core = with_sessions xs k.core }) g (after s e) es) (each_live s e k.logs g k.core.sessions live)
    ∙ looked_is es (record k { logs = put_id replica_id (replica_of (after s e)) k.logs; core = with_sessions told k.core }) g (after s e) (told_live s e k.core.sessions live)

pub look_sends_is : (es : List Edit) (k : KeptMachine) (g : ℕ) (s : Record) → AreLive k.core.sessions → look_sends in_code k g s es ≡ kept_sends s es k.core.sessions
look_sends_is [] k g s live = refl
look_sends_is (e ∷ es) k g s live =
    let told : List (Session Replay) = map (told_more s e) k.core.sessions in
    ap (λ out. flat_map (told_sends s e) k.core.sessions ++ out)
    (ap (λ xs. look_sends in_code (record k { logs = put_id replica_id (replica_of (after s e)) k.logs; core = with_sessions xs k.core }) g (after s e) es) (each_live s e k.logs g k.core.sessions live)
    ∙ look_sends_is es (record k { logs = put_id replica_id (replica_of (after s e)) k.logs; core = with_sessions told k.core }) g (after s e) (told_live s e k.core.sessions live))

pub look_spends_is : (es : List Edit) (k : KeptMachine) (g : ℕ) (s : Record) → AreLive k.core.sessions → look_spends in_code k g s es ≡ kept_spends s es k.core.sessions
look_spends_is [] k g s live = refl
look_spends_is (e ∷ es) k g s live =
    let told : List (Session Replay) = map (told_more s e) k.core.sessions in
    ap (λ b. b || look_spends in_code (entered in_code k g s e) g (after s e) es) (each_counts s e k.core.sessions live)
    ∙ ap (λ b. list_any (told_spends s e) k.core.sessions || b)
    (ap (λ xs. look_spends in_code (record k { logs = put_id replica_id (replica_of (after s e)) k.logs; core = with_sessions xs k.core }) g (after s e) es) (each_live s e k.logs g k.core.sessions live)
    ∙ look_spends_is es (record k { logs = put_id replica_id (replica_of (after s e)) k.logs; core = with_sessions told k.core }) g (after s e) (told_live s e k.core.sessions live))
