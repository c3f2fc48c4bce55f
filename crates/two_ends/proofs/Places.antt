-- The worker of a number in a world, and the sessions of an id.
use Rattle.std.proofs.Common.{◌≡◌, ℕ, ◌<◌, ◌≤◌, ◌^◌, List, [], ◌∷◌, ◌++◌, inl, inr, Bool, true, false, Option, Some, None, if◌then◌else◌, length, map, refl, sym, ap, subst, ◌∙◌, arith}
use Rattle.std.specs.Prelude.{All, ◌==◌, option_map, decimal, codes}
use Rattle.std.specs.List.{find}
use Rattle.std.proofs.lemmas.Bool.{eqb-true}
use Rattle.std.proofs.lemmas.Fmt.{decimal_injective}
use Rattle.std.proofs.lemmas.List.{append_cancel_left}
use Rattle.std.proofs.lemmas.List.Elements.{All-head, All-tail, All-map}
use Rattle.dispatch_types.specs.declared.dispatch.Dispatch.{Dispatch}
use Rattle.session_core.specs.declared.bot.Bot.{Bot}
use Rattle.session_core.specs.State.{Session}
use Rattle.session_core.specs.Resume.{session_id}
use Rattle.world_law.specs.Inputs.{Input, Open, Frame, Lost, Closed, Tick, taken}
use Rattle.world_law.specs.World.{World, Step, Edits, Looks, Opens, Frames, Loses, Leaves, Ticks, first_of, first_world, look_at, stepped}
use Rattle.world_law.specs.Model.{Worker, in_model}
use Rattle.world_law.specs.Sent.{Sent}
use Rattle.world_law.proofs.Alone.{Ascend}
use Rattle.world_law.proofs.Resumes.{found_meets}
use Rattle.two_ends.specs.Ends.{is_worker, worker_at, input_if, input_of}
use Rattle.two_ends.proofs.Among.{IsAmong}

-- ---- ids

-- the id of a session tells its number
pub same_number : (worker a b : ℕ) → a < 2 ^ 64 → b < 2 ^ 64 → session_id worker a ≡ session_id worker b → a ≡ b
same_number worker a b small_a small_b e =
    decimal_injective a b small_a small_b
    (append_cancel_left (codes "s") (decimal a) (decimal b)
    (append_cancel_left (decimal worker) (codes "s" ++ decimal a) (codes "s" ++ decimal b)
    (append_cancel_left (codes "w") (decimal worker ++ (codes "s" ++ decimal a)) (decimal worker ++ (codes "s" ++ decimal b)) e)))

-- ---- the sessions of a worker

ascend_le : (above made : ℕ) (xs : List (Session Sent)) → Ascend above made xs → above ≤ made
ascend_le above made [] up = up
ascend_le above made (x ∷ xs) up = omega (arith, up.0, ascend_le x.number made xs up.1)

pub among_below : (x : Session Sent) (above made : ℕ) (xs : List (Session Sent)) → Ascend above made xs → IsAmong x xs → (above < x.number) × (x.number ≤ made)
among_below x above made [] up is = absurd is
among_below x above made (y ∷ ys) up (inl same) =
    subst (λ (z : Session Sent). (above < z.number) × (z.number ≤ made)) (sym same) (up.0, ascend_le y.number made ys up.1)
among_below x above made (y ∷ ys) up (inr later) =
    let rest = among_below x y.number made ys up.1 later in (omega (arith, up.0, rest.0), rest.1)

-- no two have one number
pub same_session : (x y : Session Sent) (above made : ℕ) (xs : List (Session Sent)) → Ascend above made xs → IsAmong x xs → IsAmong y xs → x.number ≡ y.number → x ≡ y
same_session x y above made [] up a b e = absurd a
same_session x y above made (z ∷ zs) up (inl a) (inl b) e = a ∙ sym b
same_session x y above made (z ∷ zs) up (inl a) (inr b) e =
    let head : x.number ≡ z.number = ap (λ (s : Session Sent). s.number) a in
    absurd (omega (arith, head, e, (among_below y z.number made zs up.1 b).0))
same_session x y above made (z ∷ zs) up (inr a) (inl b) e =
    let head : y.number ≡ z.number = ap (λ (s : Session Sent). s.number) b in
    absurd (omega (arith, head, e, (among_below x z.number made zs up.1 a).0))
same_session x y above made (z ∷ zs) up (inr a) (inr b) e = same_session x y z.number made zs up.1 a b e

-- ---- the worker that is found

found_of_all : (P : Worker → Type 0) (p : Worker → Bool) (ws : List Worker) (w : Worker) → All P ws → find p ws ≡ Some w → P w
found_of_all P p [] w all found = absurd (cc found)
found_of_all P p (v ∷ vs) w all found = by_test (p v) found (found_of_all P p vs w (All-tail P v vs all))
  where
    by_test : (b : Bool) → (if b then Some v else find p vs) ≡ Some w → (find p vs ≡ Some w → P w) → P w
    by_test true here later = let same : v ≡ w = cc in subst P same (All-head P v vs all)
    by_test false there later = later there

-- where all workers are such, the one of a number is
pub found_stays : (P : Worker → Type 0) (n : ℕ) (m : World) (w : Worker) → All P m.workers → worker_at n m ≡ Some w → P w
found_stays P n m w all found = found_of_all P (is_worker n) m.workers w all found

-- it has the number that was asked for
pub worker_number : (n : ℕ) (m : World) (w : Worker) → worker_at n m ≡ Some w → w.core.worker ≡ n
worker_number n m w found = eqb-true w.core.worker n (found_meets (is_worker n) m.workers w found)

-- no session
abbrev IsFresh : Worker → Type 0
IsFresh w = w.core.sessions ≡ []

-- the first world's worker of a number has none
pub first_worker_at : (bots : List Bot) (guilds : List ℕ) (places : List (ℕ × List ℕ)) (n : ℕ) (w : Worker) → worker_at n (first_world bots guilds places) ≡ Some w → w.core.sessions ≡ []
first_worker_at bots guilds places n w found =
    found_of_all IsFresh (is_worker n) (map (first_of bots guilds) places) w (All-map IsFresh (first_of bots guilds) places (λ k d h. refl)) found

-- ---- a step

-- a change that keeps numbers changes the worker that is found
find_moved : (n : ℕ) (f : Worker → Worker) → ((w : Worker) → (f w).core.worker ≡ w.core.worker) → (ws : List Worker)
    → find (is_worker n) (map f ws) ≡ option_map f (find (is_worker n) ws)
find_moved n f keeps [] = refl
find_moved n f keeps (w ∷ ws) = by_number ((f w).core.worker == n) (w.core.worker == n) (ap (λ k. k == n) (keeps w)) (find_moved n f keeps ws)
  where
    by_number : (a b : Bool) → a ≡ b → find (is_worker n) (map f ws) ≡ option_map f (find (is_worker n) ws)
        → (if a then Some (f w) else find (is_worker n) (map f ws)) ≡ option_map f (if b then Some w else find (is_worker n) ws)
    by_number true true same rest = refl
    by_number true false same rest = absurd (cc same)
    by_number false true same rest = absurd (cc same)
    by_number false false same rest = rest

same_found : (f g : Worker → Worker) → ((w : Worker) → f w ≡ g w) → (o : Option Worker) → option_map f o ≡ option_map g o
same_found f g same None = refl
same_found f g same (Some w) = ap Some (same w)

unmoved : (o : Option Worker) → o ≡ option_map (λ (w : Worker). w) o
unmoved None = refl
unmoved (Some w) = refl

module _ (text : ℕ → Dispatch → List ℕ) where
  -- the worker after what it was given
  abbrev pub after_input : Worker → Option Input → Worker
  after_input w None = w
  after_input w (Some i) = taken (in_model text) w i

  moved_at : ((i : Input) (w : Worker) → (taken (in_model text) w i).core.worker ≡ w.core.worker) → (n k : ℕ) (given : Worker → Input) (ws : List Worker)
      → find (is_worker n) (map (λ (w : Worker). if w.core.worker == k then taken (in_model text) w (given w) else w) ws)
      ≡ option_map (λ (w : Worker). after_input w (input_if k w (given w))) (find (is_worker n) ws)
  moved_at keeps n k given ws =
      find_moved n (λ (w : Worker). if w.core.worker == k then taken (in_model text) w (given w) else w) (λ w. kept w (w.core.worker == k)) ws
      ∙ same_found (λ (w : Worker). if w.core.worker == k then taken (in_model text) w (given w) else w) (λ (w : Worker). after_input w (input_if k w (given w)))
      (λ w. takes w (w.core.worker == k)) (find (is_worker n) ws)
    where
      kept : (w : Worker) (b : Bool) → (if b then taken (in_model text) w (given w) else w).core.worker ≡ w.core.worker
      kept w true = keeps (given w) w
      kept w false = refl

      takes : (w : Worker) (b : Bool) → (if b then taken (in_model text) w (given w) else w) ≡ after_input w (if b then Some (given w) else None)
      takes w true = refl
      takes w false = refl

  -- what becomes of the worker of a number in a step: it takes what it is given
  pub worker_stepped : ((i : Input) (w : Worker) → (taken (in_model text) w i).core.worker ≡ w.core.worker) → (n : ℕ) (m : World) (step : Step)
      → worker_at n (stepped text m step) ≡ option_map (λ (w : Worker). after_input w (input_of m w step)) (worker_at n m)
  worker_stepped keeps n m (Edits g e) = unmoved (worker_at n m)
  worker_stepped keeps n m (Looks k g) = moved_at keeps n k (λ (w : Worker). look_at g (m.logs g) (length (w.logs.seen g))) m.workers
  worker_stepped keeps n m (Opens k conn) = moved_at keeps n k (λ (w : Worker). Open conn) m.workers
  worker_stepped keeps n m (Frames k conn received) = moved_at keeps n k (λ (w : Worker). Frame conn received) m.workers
  worker_stepped keeps n m (Loses k conn) = moved_at keeps n k (λ (w : Worker). Lost conn) m.workers
  worker_stepped keeps n m (Leaves k conn code) = moved_at keeps n k (λ (w : Worker). Closed conn code) m.workers
  worker_stepped keeps n m (Ticks k now) = moved_at keeps n k (λ (w : Worker). Tick now) m.workers
