-- Open links in order of their numbers.
use Rattle.std.proofs.Common.{◌≡◌, ◌≢◌, ℕ, zero, suc, ◌<◌, ◌≤◌, List, [], ◌∷◌, ◌++◌, Bool, true, false, ◌||◌, map, length, get_or, set, refl, sym, ap, ◌∙◌, subst, arith, inl, inr, length-set, get_or-set_other, Result, Ok, Err, OnOk, OnErr}
use Rattle.std.specs.Prelude.{◌==◌}
use Rattle.std.specs.List.{remove}
use Rattle.std.proofs.lemmas.Bool.{cases_lt}
use Rattle.std.proofs.lemmas.Bool.Decides.{nat_tests}
use Rattle.std.proofs.lemmas.Grind.{get_or-set_at}
use Rattle.std.proofs.lemmas.List.{get_or-map, length-map, get_or_default}
use Rattle.std.proofs.Math.Seq.{map-set_same}
use Rattle.collections.specs.ById.{AllAbove, IsById, count_below}
use Rattle.gate_outside.specs.declared.sending.Sending.{Sending}
use Rattle.gate_outside.specs.declared.sending.Sending.TheVariants as sending
use Rattle.open_links.specs.declared.heard.Word.{Word}
use Rattle.open_links.specs.declared.heard.Word.TheVariants as word
use Rattle.open_links.specs.Courses.{Event, Events, Comes, Gives, course}
use Rattle.open_links.specs.Links.{Held, held_conn, no_held, AreNumbered, has_conn, MeetsHeld}
use Rattle.open_links.specs.Calls.{is_done, IsGoneOrFailed}
use Rattle.open_links.specs.Steps.{moved_on, Follows, Hears, AllMeetHeld, AllFollow, AllHear, StandsAt}
use Rattle.open_links.proofs.Happened.{of_conn, course-append, moves_own, leaves_other, in_place_own}

pub differs : (a b : ℕ) → a ≢ b → (a == b) ≡ false
differs a b ne = grind (arith, nat_tests)

above_at : (k : ℕ) (xs : List Held) (i : ℕ) (d : Held) → AllAbove held_conn k xs → i < length xs → k < (get_or xs i d).conn
above_at k [] i d h lt = absurd (omega arith)
above_at k (x ∷ xs) zero d h lt = h.0
above_at k (x ∷ xs) (suc i) d h lt = above_at k xs i d h.1 (omega arith)

rising : (xs : List Held) (i j : ℕ) (d e : Held) → IsById held_conn xs → i < j → j < length xs → (get_or xs i d).conn < (get_or xs j e).conn
rising [] i j d e h lt within = absurd (omega arith)
rising (x ∷ xs) i zero d e h lt within = absurd (omega arith)
rising (x ∷ xs) zero (suc j) d e h lt within = above_at x.conn xs j e h.0 (omega arith)
rising (x ∷ xs) (suc i) (suc j) d e h lt within = rising xs i j d e h.1 (omega arith) (omega arith)

-- two places have different numbers
pub apart : (xs : List Held) (i j : ℕ) (d e : Held) → IsById held_conn xs → i < length xs → j < length xs → i ≢ j → ((get_or xs i d).conn == (get_or xs j e).conn) ≡ false
apart xs i j d e h at to ne = elim (cases_lt i j) [
  | inl lt ↦ (let r = rising xs i j d e h lt to in differs _ _ (λ same. omega arith))
  | inr ge ↦ (let r = rising xs j i e d h (omega arith) at in differs _ _ (λ same. omega arith))
]

as_conns : (xs : List Held) → IsById held_conn xs → IsById (λ n. n) (map held_conn xs)
as_conns [] h = tt
as_conns (x ∷ xs) h = (above x.conn xs h.0, as_conns xs h.1)
  where
    above : (k : ℕ) (ys : List Held) → AllAbove held_conn k ys → AllAbove (λ n. n) k (map held_conn ys)
    above k [] a = tt
    above k (y ∷ ys) a = (a.0, above k ys a.1)

from_conns : (xs : List Held) → IsById (λ n. n) (map held_conn xs) → IsById held_conn xs
from_conns [] h = tt
from_conns (x ∷ xs) h = (above x.conn xs h.0, from_conns xs h.1)
  where
    above : (k : ℕ) (ys : List Held) → AllAbove (λ n. n) k (map held_conn ys) → AllAbove held_conn k ys
    above k [] a = tt
    above k (y ∷ ys) a = (a.0, above k ys a.1)

pub by_conns : (xs ys : List Held) → map held_conn ys ≡ map held_conn xs → IsById held_conn xs → IsById held_conn ys
by_conns xs ys e h = from_conns ys (subst (IsById (λ n. n)) (sym e) (as_conns xs h))

pub same_length : (xs ys : List Held) → map held_conn ys ≡ map held_conn xs → length ys ≡ length xs
same_length xs ys e = sym (length-map ys held_conn) ∙ ap length e ∙ length-map xs held_conn

same_number : (xs ys : List Held) (k : ℕ) (d : Held) → map held_conn ys ≡ map held_conn xs → k < length xs → (get_or ys k d).conn ≡ (get_or xs k d).conn
same_number xs ys k d e at =
    let lt : k < length ys = omega (arith, same_length xs ys e) in
    sym (get_or-map held_conn ys k d 0 lt) ∙ ap (λ ns. get_or ns k 0) e ∙ get_or-map held_conn xs k d 0 at

-- links that keep their numbers stay numbered
pub numbered_kept : (xs ys : List Held) (count : ℕ) → map held_conn ys ≡ map held_conn xs → AreNumbered xs count → AreNumbered ys count
numbered_kept xs ys count e h = record {
  ascend = by_conns xs ys e h.ascend;
  below = λ k d lt.
      let at : k < length xs = omega (arith, same_length xs ys e) in
      subst (λ n. n < count) (sym (same_number xs ys k d e at)) (h.below k d at);
}

-- and in their places
pub stands_kept : (xs ys : List Held) (i conn : ℕ) → map held_conn ys ≡ map held_conn xs → StandsAt i conn xs → StandsAt i conn ys
stands_kept xs ys i conn e s = record {
  within = omega (arith, s.within, same_length xs ys e);
  numbered = λ d. same_number xs ys i d e s.within ∙ s.numbered d;
}

-- what happens to one connection, whose link follows it
pub one_follows : (xs : List Held) (i conn : ℕ) (d y : Held) (more : List Event) → IsById held_conn xs → StandsAt i conn xs → Follows more (get_or xs i d) y → AllFollow (of_conn conn more) xs (set xs i y)
one_follows xs i conn d y more h s f = record {
  conns = map-set_same held_conn xs i y d f.conn;
  in_place = λ es all. in_place_own es conn more (f.in_place (course conn es) (met es all));
  meet = λ es all k e lt.
      let at : k < length xs = omega (arith, length-set xs i y) in
      elim (cases_lt k i) [
        | inl below ↦ other es all k e at (λ same. omega arith)
        | inr ge ↦ elim (cases_lt i k) [
          | inl above ↦ other es all k e at (λ same. omega arith)
          | inr le ↦ own es all k e (omega arith)
        ]
      ];
}
  where
    P : Events → Held → Type 0
    P es l = MeetsHeld (course l.conn (es ++ of_conn conn more)) l

    met : (es : Events) → AllMeetHeld es xs → MeetsHeld (course conn es) (get_or xs i d)
    met es all = subst (λ n. MeetsHeld (course n es) (get_or xs i d)) (s.numbered d) (all i d s.within)

    own : (es : Events) → AllMeetHeld es xs → (k : ℕ) (e : Held) → k ≡ i → MeetsHeld (course (get_or (set xs i y) k e).conn (es ++ of_conn conn more)) (get_or (set xs i y) k e)
    own es all k e same =
        let moves : course y.conn (es ++ of_conn conn more) ≡ moved_on (course conn es) more =
        ap (λ n. course n (es ++ of_conn conn more)) (f.conn ∙ s.numbered d) ∙ course-append conn es (of_conn conn more) ∙ moves_own conn (course conn es) more in
        let now : MeetsHeld (course y.conn (es ++ of_conn conn more)) y = subst (λ c. MeetsHeld c y) (sym moves) (f.meets (course conn es) (met es all)) in
        subst (λ (l : Held). MeetsHeld (course l.conn (es ++ of_conn conn more)) l) (sym (get_or-set_at xs i k y e same s.within)) now

    other : (es : Events) → AllMeetHeld es xs → (k : ℕ) (e : Held) → k < length xs → k ≢ i → MeetsHeld (course (get_or (set xs i y) k e).conn (es ++ of_conn conn more)) (get_or (set xs i y) k e)
    other es all k e at ne =
        let x = get_or xs k e in
        let ne' : (conn == x.conn) ≡ false = subst (λ n. (n == x.conn) ≡ false) (s.numbered d) (apart xs i k d e h s.within at (λ same. ne (sym same))) in
        let stays : course x.conn (es ++ of_conn conn more) ≡ course x.conn es = course-append x.conn es (of_conn conn more) ∙ leaves_other conn x.conn (course x.conn es) more ne' in
        let now : MeetsHeld (course x.conn (es ++ of_conn conn more)) x = subst (λ c. MeetsHeld c x) (sym stays) (all k e at) in
        subst (λ (l : Held). MeetsHeld (course l.conn (es ++ of_conn conn more)) l) (sym (get_or-set_other xs i k y e ne)) now

differs_at : (conn : ℕ) (xs : List Held) (k : ℕ) (d : Held) → has_conn conn xs ≡ false → k < length xs → (conn == (get_or xs k d).conn) ≡ false
differs_at conn [] k d h lt = absurd (omega arith)
differs_at conn (x ∷ xs) zero d h lt = grind (arith, nat_tests)
differs_at conn (x ∷ xs) (suc k) d h lt = differs_at conn xs k d (rest (x.conn == conn) (has_conn conn xs) h) (omega arith)
  where
    rest : (a b : Bool) → (a || b) ≡ false → b ≡ false
    rest true b e = absurd (cc)
    rest false b e = e

-- what is given out for a connection without an open link concerns none that are open
pub none_follows : (xs : List Held) (conn : ℕ) (x : Sending) → has_conn conn xs ≡ false → AllFollow ((conn, Gives x) ∷ []) xs xs
none_follows xs conn x h = record {
  conns = refl;
  in_place = λ es all. (refl, tt);
  meet = λ es all k e lt.
      let l = get_or xs k e in
      let more : List Event = Gives x ∷ [] in
      let stays : course l.conn (es ++ of_conn conn more) ≡ course l.conn es = course-append l.conn es (of_conn conn more) ∙ leaves_other conn l.conn (course l.conn es) more (differs_at conn xs k e h lt) in
      subst (λ c. MeetsHeld c l) (sym stays) (all k e lt);
}

above_lacks : (conn k : ℕ) (xs : List Held) → conn ≤ k → AllAbove held_conn k xs → has_conn conn xs ≡ false
above_lacks conn k [] le h = refl
above_lacks conn k (x ∷ xs) le h = grind (arith, nat_tests, h.0, above_lacks conn k xs le h.1)

-- no link has the number
pub lacks : (conn : ℕ) (xs : List Held) (i : ℕ) → IsById held_conn xs → i ≡ count_below held_conn conn xs → ((d : Held) → i < length xs → (get_or xs i d).conn ≡ conn → ⊥) → has_conn conn xs ≡ false
lacks conn [] i h e none = refl
lacks conn (x ∷ xs) zero h e none = elim (cases_lt x.conn conn) [
  | inl below ↦ absurd (grind (arith, nat_tests))
  | inr ge ↦ (let ne : x.conn ≡ conn → ⊥ = none x (omega arith) in grind (arith, nat_tests, above_lacks conn x.conn xs ge h.0))
]
lacks conn (x ∷ xs) (suc i) h e none = elim (cases_lt x.conn conn) [
  | inl below ↦ (let c : i ≡ count_below held_conn conn xs = grind (arith, nat_tests) in grind (arith, nat_tests, lacks conn xs i h.1 c (λ d lt k. none d (omega arith) k)))
  | inr ge ↦ absurd (grind (arith, nat_tests))
]

-- all links have smaller numbers
pub none_from : (from conn : ℕ) (xs : List Held) → count_below held_conn from xs ≡ length xs → from ≤ conn → has_conn conn xs ≡ false
none_from from conn [] e le = refl
none_from from conn (x ∷ xs) e le = elim (cases_lt x.conn from) [
  | inl below ↦ (let c : count_below held_conn from xs ≡ length xs = grind (arith, nat_tests) in grind (arith, nat_tests, none_from from conn xs c le))
  | inr ge ↦ absurd (grind (arith, nat_tests))
]

-- those before the first link that has no smaller number
pub none_below : (from conn : ℕ) (xs : List Held) (i : ℕ) (d : Held) → IsById held_conn xs → i ≡ count_below held_conn from xs → i < length xs → from ≤ conn → conn < (get_or xs i d).conn → has_conn conn xs ≡ false
none_below from conn [] i d h e lt le below = absurd (omega arith)
none_below from conn (x ∷ xs) zero d h e lt le below = grind (arith, nat_tests, above_lacks conn x.conn xs (omega (arith, below)) h.0)
none_below from conn (x ∷ xs) (suc i) d h e lt le below = elim (cases_lt x.conn from) [
  | inl under ↦ (let c : i ≡ count_below held_conn from xs = grind (arith, nat_tests) in grind (arith, nat_tests, none_below from conn xs i d h.1 c (omega (arith, lt)) le below))
  | inr ge ↦ absurd (grind (arith, nat_tests))
]

-- a link that stands there is found
pub stands_there : (xs : List Held) (i conn : ℕ) → StandsAt i conn xs → has_conn conn xs ≡ true
stands_there xs i conn s = there xs i (s.numbered no_held) s.within
  where
    there : (ys : List Held) (j : ℕ) → (get_or ys j no_held).conn ≡ conn → j < length ys → has_conn conn ys ≡ true
    there [] j e lt = absurd (omega arith)
    there (y ∷ ys) zero e lt = grind (arith, nat_tests)
    there (y ∷ ys) (suc j) e lt = grind (arith, nat_tests, there ys j e (omega (arith, lt)))

-- the first link that has no smaller number
pub first_from : (from : ℕ) (xs : List Held) (i : ℕ) (d : Held) → i ≡ count_below held_conn from xs → i < length xs → from ≤ (get_or xs i d).conn
first_from from [] i d e lt = absurd (omega arith)
first_from from (x ∷ xs) zero d e lt = elim (cases_lt x.conn from) [
  | inl below ↦ absurd (grind (arith, nat_tests))
  | inr ge ↦ ge
]
first_from from (x ∷ xs) (suc i) d e lt = elim (cases_lt x.conn from) [
  | inl below ↦ (let c : i ≡ count_below held_conn from xs = grind (arith, nat_tests) in first_from from xs i d c (omega arith))
  | inr ge ↦ absurd (grind (arith, nat_tests))
]

pub done_at : (xs : List Held) (i conn : ℕ) (d : Held) → IsById held_conn xs → i < length xs → (get_or xs i d).conn ≡ conn → (get_or xs i d).done ≡ true → is_done conn xs ≡ true
done_at [] i conn d h lt e t = absurd (omega arith)
done_at (x ∷ xs) zero conn d h lt e t = grind (arith, nat_tests)
done_at (x ∷ xs) (suc i) conn d h lt e t =
    let above = above_at x.conn xs i d h.0 (omega arith) in
    let rest = done_at xs i conn d h.1 (omega arith) e t in
    let ne : (x.conn == conn) ≡ false = differs x.conn conn (λ same. omega arith) in
    rw ne rest

set_done : (xs : List Held) (i conn : ℕ) (x y : Held) → IsById held_conn xs → StandsAt i conn xs → x ≡ get_or xs i x → y.conn ≡ x.conn → y.done ≡ true → is_done conn (set xs i y) ≡ true
set_done xs i conn x y h s e same done =
    let at : i < length (set xs i y) = omega (arith, s.within, length-set xs i y) in
    let here : get_or (set xs i y) i y ≡ y = get_or-set_at xs i i y y refl s.within in
    let own : y.conn ≡ conn = same ∙ ap held_conn e ∙ s.numbered x in
    let kept : map held_conn (set xs i y) ≡ map held_conn xs = map-set_same held_conn xs i y x (same ∙ ap held_conn e) in
    done_at (set xs i y) i conn y (by_conns xs (set xs i y) kept h) at (ap held_conn here ∙ own) (ap (λ (l : Held). l.done) here ∙ done)

-- the same of a link that is read at its place
pub follows_at : (xs : List Held) (i conn : ℕ) (x y : Held) (more : List Event) → IsById held_conn xs → StandsAt i conn xs → x ≡ get_or xs i x → Follows more x y → AllFollow (of_conn conn more) xs (set xs i y)
follows_at xs i conn x y more h s e f = one_follows xs i conn x y more h s (subst (λ l. Follows more l y) e f)

pub hears_at : (xs : List Held) (i conn : ℕ) (x y : Held) (w : Word) → IsById held_conn xs → StandsAt i conn xs → x ≡ get_or xs i x → Hears w x y → AllHear conn w xs (set xs i y)
hears_at xs i conn x y (word.Text text) h s e f = follows_at xs i conn x y (Comes (sending.Text text) ∷ []) h s e f
hears_at xs i conn x y (word.Closed code) h s e f =
    let all = follows_at xs i conn x y (Comes (sending.Close code) ∷ []) h s e f.0 in
    (all, set_done xs i conn x y h s e f.0.conn f.1)
hears_at xs i conn x y word.Nothing h s e f = follows_at xs i conn x y [] h s e f
hears_at xs i conn x y word.Lost h s e f =
    let all = follows_at xs i conn x y [] h s e f.0 in
    (all, set_done xs i conn x y h s e f.0.conn f.1)

pub at_err : {T E P : Type 0} (r : Result T E) → P → OnErr r P
at_err (Ok x) p = tt
at_err (Err e) p = p

pub is_empty : (xs : List Held) → length xs ≡ 0 → xs ≡ []
is_empty [] e = refl
is_empty (x ∷ xs) e = absurd (omega arith)

-- what holds whether a call answers a value or a fault
pub either_way : {T E P Q X : Type 0} (r : Result T E) → (P → X) → (Q → X) → OnOk r P → OnErr r Q → X
either_way (Ok x) f g p q = f p
either_way (Err e) f g p q = g q

pub conns_heard : (conn : ℕ) (w : Word) (xs ys : List Held) → AllHear conn w xs ys → map held_conn ys ≡ map held_conn xs
conns_heard conn (word.Text text) xs ys f = f.conns
conns_heard conn (word.Closed code) xs ys f = f.0.conns
conns_heard conn word.Nothing xs ys f = f.conns
conns_heard conn word.Lost xs ys f = f.0.conns

pub stands_below : (xs : List Held) (i conn count : ℕ) → AreNumbered xs count → StandsAt i conn xs → conn < count
stands_below xs i conn count h s = subst (λ n. n < count) (s.numbered no_held) (h.below i no_held s.within)

-- no link is left that has the number of one that was taken out
pub removed_lacks : (xs : List Held) (i conn : ℕ) → IsById held_conn xs → StandsAt i conn xs → has_conn conn (remove xs i) ≡ false
removed_lacks [] i conn h s = absurd (omega (arith, s.within))
removed_lacks (x ∷ xs) zero conn h s = above_lacks conn x.conn xs (omega (arith, s.numbered x)) h.0
removed_lacks (x ∷ xs) (suc i) conn h s =
    let above = above_at x.conn xs i x h.0 (omega (arith, s.within)) in
    let same : (get_or xs i x).conn ≡ conn = s.numbered x in
    let ne : (x.conn == conn) ≡ false = differs x.conn conn (λ e. omega (arith, above, same, e)) in
    let rest : StandsAt i conn xs = record { within = omega (arith, s.within); numbered = s.numbered } in
    rw ne (removed_lacks xs i conn h.1 rest)

-- nothing is to be said of a connection without an open link
pub lacks_all : (conn : ℕ) (xs : List Held) → has_conn conn xs ≡ false → IsGoneOrFailed conn xs
lacks_all conn xs h = λ k d lt e. let ne = differs_at conn xs k d h lt in absurd (same_differs (get_or xs k d).conn conn e ne)
  where
    same_differs : (a b : ℕ) → a ≡ b → (b == a) ≡ false → ⊥
    same_differs a b e ne = grind (arith, nat_tests)

-- the link at its place has failed
pub stands_failed : (xs ys : List Held) (i conn : ℕ) → IsById held_conn xs → StandsAt i conn xs → map held_conn ys ≡ map held_conn xs → is_done conn xs ≡ false
    → ((d : Held) → (get_or xs i d).done ≡ false → 0 < (get_or ys i d).faults) → IsGoneOrFailed conn ys
stands_failed xs ys i conn h s e d f = λ k x lt same.
    let s' = stands_kept xs ys i conn e s in
    let h' = by_conns xs ys e h in
    let free : (get_or xs i x).done ≡ false = not_done (get_or xs i x).done (done_at xs i conn x h s.within (s.numbered x)) in
    let failed : 0 < (get_or ys i x).faults = f x free in
    elim (cases_lt k i) [
      | inl below ↦ (let r = rising ys k i x x h' below s'.within in let t = s'.numbered x in absurd (omega (arith, r, t, same)))
      | inr ge ↦ elim (cases_lt i k) [
        | inl above ↦ (let r = rising ys i k x x h' above lt in let t = s'.numbered x in absurd (omega (arith, r, t, same)))
        | inr le ↦ (let at : i ≡ k = omega (arith, ge, le) in subst (λ n. 0 < (get_or ys n x).faults) at failed)
      ]
    ]
  where
    not_done : (b : Bool) → (b ≡ true → is_done conn xs ≡ true) → b ≡ false
    not_done true g = let t = g refl in absurd (cc)
    not_done false g = refl

pub failed_at : (xs : List Held) (i : ℕ) (x y : Held) → i < length xs → x ≡ get_or xs i x → (x.done ≡ false → 0 < y.faults) → (d : Held) → (get_or xs i d).done ≡ false → 0 < (get_or (set xs i y) i d).faults
failed_at xs i x y at e f d free =
    let same : (get_or xs i d).done ≡ x.done = ap (λ (l : Held). l.done) (get_or_default xs i d x at) ∙ ap (λ (l : Held). l.done) (sym e) in
    subst (λ (l : Held). 0 < l.faults) (sym (get_or-set_at xs i i y d refl at)) (f (sym same ∙ free))
