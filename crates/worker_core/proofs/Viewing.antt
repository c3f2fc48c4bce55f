-- Time that passes changes no viewer of the sessions that it leaves.
use Rattle.std.proofs.Common.{◌≡◌, ℕ, suc, ◌≤◌, List, [], ◌∷◌, ◌++◌, Bool, true, false, if◌then◌else◌, length, map, refl, sym, ap, subst, ◌∙◌, arith}
use Rattle.std.specs.Prelude.{flat_map}
use Rattle.std.proofs.lemmas.List.{length-map}
use Rattle.replay_ring.specs.Replay.{Replay}
use Rattle.session_core.specs.State.{State, Session, Condition, Detached, is_on, released, gone}
use Rattle.session_core.specs.Ends.{all_gone, is_overdue, silent_of, ticked}
use Rattle.dispatch_types.specs.declared.viewer.Viewer.{Viewer}
use Rattle.worker_core.specs.Recipients.{Picks, viewer_of}

-- what is left of a list without the items that pass a test
module _ {A : Type 0} (p : A → Bool) where
  abbrev unless : A → Bool → List A
  unless x b = if b then [] else x ∷ []

  abbrev left_out : List A → List A
  left_out xs = flat_map (λ x. unless x (p x)) xs

  at_most : (xs : List A) → length (left_out xs) ≤ length xs
  at_most [] = omega arith
  at_most (x ∷ xs) = by_test (p x) (at_most xs)
    where
      by_test : (b : Bool) → length (left_out xs) ≤ length xs → length (unless x b ++ left_out xs) ≤ length (x ∷ xs)
      by_test true le = omega (arith, le)
      by_test false le = omega (arith, le)

  -- if as many are left, all are
  all_left : (xs : List A) → length (left_out xs) ≡ length xs → left_out xs ≡ xs
  all_left [] same = refl
  all_left (x ∷ xs) same = by_test (p x) same (all_left xs)
    where
      by_test : (b : Bool) → length (unless x b ++ left_out xs) ≡ length (x ∷ xs) → (length (left_out xs) ≡ length xs → left_out xs ≡ xs) → unless x b ++ left_out xs ≡ x ∷ xs
      by_test true as_many rest = absurd (omega (arith, as_many, at_most xs))
      by_test false as_many rest = ap (λ ys. x ∷ ys) (rest (omega (arith, as_many)))

released_viewers : (conn : ℕ) (condition : Condition) (xs : List (Session Replay)) → map viewer_of (map (released conn condition) xs) ≡ map viewer_of xs
released_viewers conn condition [] = refl
released_viewers conn condition (x ∷ xs) = by_test (is_on conn x.condition) (released_viewers conn condition xs)
  where
    by_test : (b : Bool) → map viewer_of (map (released conn condition) xs) ≡ map viewer_of xs
        → viewer_of (if b then record x { condition = condition } else x) ∷ map viewer_of (map (released conn condition) xs) ≡ map viewer_of (x ∷ xs)
    by_test true rest = ap (λ vs. x.viewer ∷ vs) rest
    by_test false rest = ap (λ vs. x.viewer ∷ vs) rest

gone_viewers : (conns : List ℕ) (now : ℕ) (s : State Replay) → map viewer_of (all_gone conns now s).sessions ≡ map viewer_of s.sessions
gone_viewers [] now s = refl
gone_viewers (conn ∷ conns) now s = gone_viewers conns now (gone conn (Detached now) s) ∙ released_viewers conn (Detached now) s.sessions

-- if no session ends by it, the viewers stay
pub ticked_viewers : (now : ℕ) (s : State Replay) → length (ticked (λ x. []) now s).sessions ≡ length s.sessions → map viewer_of (ticked (λ x. []) now s).sessions ≡ map viewer_of s.sessions
ticked_viewers now s same =
    let there : State Replay = all_gone (silent_of now s.connections) now s in
    let stay = gone_viewers (silent_of now s.connections) now s in
    let many : length there.sessions ≡ length s.sessions = sym (length-map there.sessions viewer_of) ∙ (ap length stay ∙ length-map s.sessions viewer_of) in
    ap (map viewer_of) (all_left (λ (x : Session Replay). is_overdue now x.condition) there.sessions (same ∙ sym many)) ∙ stay

-- so they are known if they were and as many sessions are left
pub ticked_known : (viewers : List Viewer) (whose : List ℕ) (now : ℕ) (old new : State Replay) → Picks viewers whose (map viewer_of old.sessions) → new ≡ ticked (λ x. []) now old → length new.sessions ≡ length old.sessions
    → Picks viewers whose (map viewer_of new.sessions)
ticked_known viewers whose now old new known is many =
    let same : map viewer_of new.sessions ≡ map viewer_of old.sessions =
    ap (λ (n : State Replay). map viewer_of n.sessions) is
    ∙ ticked_viewers now old (sym (ap (λ (n : State Replay). length n.sessions) is) ∙ many) in
    subst (Picks viewers whose) (sym same) known
