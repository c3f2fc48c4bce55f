-- Links that meet their connections, after more has happened and as links open and come back.
use Rattle.std.proofs.Common.{◌≡◌, ℕ, zero, suc, ◌+◌, ◌<◌, List, [], ◌∷◌, ◌++◌, Bool, true, false, not, ◌||◌, Option, Some, None, map, length, take, drop, get_or, refl, sym, ap, ◌∙◌, subst, arith, inl, inr, append_assoc, append-nil, length-append}
use Rattle.std.specs.Prelude.{◌==◌, All}
use Rattle.std.specs.List.{remove, AllZip}
use Rattle.std.proofs.lemmas.Bool.{cases_lt, eq-eqb}
use Rattle.std.proofs.lemmas.List.{length-map, map-append}
use Rattle.std.proofs.lemmas.List.Edits.{length-remove}
use Rattle.std.proofs.lemmas.List.Elements.{All-nil, All-cons, All-head, All-tail, All-append, All-take, All-drop}
use Rattle.std.proofs.lemmas.List.Folds.{list_any-append}
use Rattle.collections.specs.ById.{AllAbove, IsById}
use Rattle.gate_outside.specs.Told.{IsEmptyIfTold}
use Rattle.gate_outside.specs.Links.{ReturnedLink, IsNewLink}
use Rattle.open_links.specs.Courses.{Course, Events, Opens, Unopened, Open, is_opened, is_over, moved, moved_all, course, is_in_place}
use Rattle.open_links.specs.Links.{Held, held_conn, as_returned, Holding, AreNumbered, is_among, has_conn, IsIfTold, IsFrontIfTold, with_more, MeetsReturned, MeetsHeld, Meets, AllMeet}
use Rattle.open_links.specs.Calls.{MovesBy}
use Rattle.open_links.specs.Steps.{AllMeetHeld, AllFollow, StandsAt}
use Rattle.open_links.proofs.Happened.{opens_any, course-append, over_stays, after_one, leaves_other, unopened_stays, passes_join}
use Rattle.open_links.proofs.Listed.{differs, by_conns, same_length}

pub with_none : {A : Type 0} (o : Option (List A)) → with_more o [] ≡ o
with_none None = refl
with_none (Some xs) = ap Some (append-nil xs)

pub with_two : {A : Type 0} (o : Option (List A)) (xs ys : List A) → with_more (with_more o xs) ys ≡ with_more o (xs ++ ys)
with_two None xs ys = refl
with_two (Some told) xs ys = ap Some (append_assoc told xs ys)

-- a connection that has ended stays as it is
pub over_same : (conn : ℕ) (es more : Events) → is_over (course conn es) ≡ true → course conn (es ++ more) ≡ course conn es
over_same conn es more h = course-append conn es more ∙ over_stays conn (course conn es) more h

over_more : (es more : Events) (conns : List ℕ) → All (λ conn. is_over (course conn es) ≡ true) conns → All (λ conn. is_over (course conn (es ++ more)) ≡ true) conns
over_more es more conns h = λ k d lt. ap is_over (over_same (get_or conns k d) es more (h k d lt)) ∙ h k d lt

back_stays : (es more : Events) (conns : List ℕ) (links : List ReturnedLink) → All (λ conn. is_over (course conn es) ≡ true) conns
    → AllZip (λ conn link. MeetsReturned (course conn es) link) conns links → AllZip (λ conn link. MeetsReturned (course conn (es ++ more)) link) conns links
back_stays es more [] [] h z = tt
back_stays es more [] (r ∷ links) h z = absurd z
back_stays es more (conn ∷ conns) [] h z = absurd z
back_stays es more (conn ∷ conns) (r ∷ links) h z =
    let P : ℕ → Type 0 = λ conn. is_over (course conn es) ≡ true in (
      subst (λ c. MeetsReturned c r) (sym (over_same conn es more (All-head P conn conns h))) z.0,
      back_stays es more conns links (All-tail P conn conns h) z.1,
    )

zip_append : {A B : Type 0} (R : A → B → Type 0) (xs ys : List A) (us vs : List B) → AllZip R xs us → AllZip R ys vs → AllZip R (xs ++ ys) (us ++ vs)
zip_append R [] ys [] vs a b = b
zip_append R [] ys (u ∷ us) vs a b = absurd a
zip_append R (x ∷ xs) ys [] vs a b = absurd a
zip_append R (x ∷ xs) ys (u ∷ us) vs a b = (a.0, zip_append R xs ys us vs a.1 b)

-- links that follow what happens meet their connections after it
pub meets_more : (more : Events) (old new : Holding) → opens_any more ≡ false → new.count ≡ old.count → AllFollow more old.links new.links → MovesBy more old new
meets_more more old new none count f = λ es before now m. record {
  in_place = passes_join is_in_place [] es more m.in_place (f.in_place es m.held);
  held = f.meet es m.held;
  ascend = by_conns old.links new.links f.conns m.ascend;
  conns = m.conns;
  back = record { links = m.back.links; told = m.back.told; meet = back_stays es more m.conns m.back.links m.over m.back.meet };
  over = over_more es more m.conns m.over;
  each = λ conn lt. subst (λ ns. (is_among conn m.conns || is_among conn ns) ≡ true) (sym f.conns) (m.each conn (omega (arith, count, lt)));
  once = omega (arith, m.once, count, same_length old.links new.links f.conns);
  later = λ conn le.
      course-append conn es more ∙ ap (λ c. moved_all conn c more) (m.later conn (omega (arith, count, le))) ∙ unopened_stays conn more none;
}

has_removed : (n : ℕ) (xs : List Held) (i : ℕ) (d : Held) → i < length xs → has_conn n xs ≡ true → (has_conn n (remove xs i) || ((get_or xs i d).conn == n)) ≡ true
has_removed n [] i d lt h = absurd (omega arith)
has_removed n (x ∷ xs) zero d lt h = turned (x.conn == n) (has_conn n xs) h
  where
    turned : (a b : Bool) → (a || b) ≡ true → (b || a) ≡ true
    turned true true h = refl
    turned true false h = refl
    turned false b h = either b h
      where
        either : (b : Bool) → b ≡ true → (b || false) ≡ true
        either true h = refl
        either false h = h
has_removed n (x ∷ xs) (suc i) d lt h = further (x.conn == n) (has_conn n xs) (has_conn n (remove xs i)) ((get_or xs i d).conn == n) h (has_removed n xs i d (omega arith))
  where
    further : (a b r k : Bool) → (a || b) ≡ true → (b ≡ true → (r || k) ≡ true) → ((a || r) || k) ≡ true
    further true b r k h f = refl
    further false b r k h f = f h

above_removed : (k : ℕ) (xs : List Held) (i : ℕ) → AllAbove held_conn k xs → AllAbove held_conn k (remove xs i)
above_removed k [] zero h = tt
above_removed k [] (suc i) h = tt
above_removed k (x ∷ xs) zero h = h.1
above_removed k (x ∷ xs) (suc i) h = (h.0, above_removed k xs i h.1)

by_id_removed : (xs : List Held) (i : ℕ) → IsById held_conn xs → IsById held_conn (remove xs i)
by_id_removed [] zero h = tt
by_id_removed [] (suc i) h = tt
by_id_removed (x ∷ xs) zero h = h.1
by_id_removed (x ∷ xs) (suc i) h = (above_removed x.conn xs i h.0, by_id_removed xs i h.1)

all_removed : (P : Held → Type 0) (xs : List Held) (i : ℕ) → All P xs → All P (remove xs i)
all_removed P xs i h = All-append P (take i xs) (drop (suc i) xs) (All-take P i xs h) (All-drop P (suc i) xs h)

pub numbered_removed : (xs : List Held) (i count : ℕ) → AreNumbered xs count → AreNumbered (remove xs i) count
numbered_removed xs i count h = record { ascend = by_id_removed xs i h.ascend; below = all_removed (λ (l : Held). l.conn < count) xs i h.below }

-- the link of a connection that has ended comes back
pub given_back : (es : Events) (links : List Held) (count : ℕ) (before now later : Option (List ReturnedLink)) (i conn : ℕ) (d : Held) → Meets es (record { links = links; count = count }) before now → is_over (course conn es) ≡ true → StandsAt i conn links
    → later ≡ with_more now (as_returned (get_or links i d) ∷ []) → Meets es (record { links = remove links i; count = count }) before later
given_back es links count before now later i conn d m o s e =
    let P : ℕ → Type 0 = λ conn. is_over (course conn es) ≡ true in
    let R : ℕ → ReturnedLink → Type 0 = λ conn link. MeetsReturned (course conn es) link in
    let r = as_returned (get_or links i d) in
    let mine : MeetsReturned (course conn es) r = subst (λ n. MeetsReturned (course n es) r) (s.numbered d) (m.held i d s.within).meets in record {
      in_place = m.in_place;
      held = all_removed (λ (l : Held). MeetsHeld (course l.conn es) l) links i m.held;
      ascend = by_id_removed links i m.ascend;
      conns = m.conns ++ conn ∷ [];
      back = record {
        links = m.back.links ++ r ∷ [];
        told = e ∙ ap (λ t. with_more t (r ∷ [])) m.back.told ∙ with_two before m.back.links (r ∷ []);
        meet = zip_append R m.conns (conn ∷ []) m.back.links (r ∷ []) m.back.meet (mine, tt);
      };
      over = All-append P m.conns (conn ∷ []) m.over (All-cons P conn [] o (All-nil P));
      each = λ n lt.
          subst (λ b. (b || has_conn n (remove links i)) ≡ true) (sym (list_any-append (λ c. c == n) m.conns (conn ∷ [])))
          (moved_over (is_among n m.conns) (has_conn n links) (has_conn n (remove links i)) (conn == n) (m.each n lt)
          (λ h. subst (λ k. (has_conn n (remove links i) || (k == n)) ≡ true) (s.numbered d) (has_removed n links i d s.within h)));
      once = omega (arith, m.once, length-append m.conns (conn ∷ []), length-remove links i s.within);
      later = m.later;
    }
  where
    moved_over : (a b r k : Bool) → (a || b) ≡ true → (b ≡ true → (r || k) ≡ true) → ((a || (k || false)) || r) ≡ true
    moved_over true b r k h f = refl
    moved_over false b r k h f = swapped r k (f h)
      where
        swapped : (r k : Bool) → (r || k) ≡ true → ((k || false) || r) ≡ true
        swapped true true h = refl
        swapped true false h = refl
        swapped false true h = refl
        swapped false false h = h

zip_held : (es : Events) (links : List Held) → AllMeetHeld es links → AllZip (λ conn link. MeetsReturned (course conn es) link) (map held_conn links) (map as_returned links)
zip_held es [] h = tt
zip_held es (l ∷ links) h =
    let P : Held → Type 0 = λ l. MeetsHeld (course l.conn es) l in
    let first : MeetsHeld (course l.conn es) l = All-head P l links h in
    (first.meets, zip_held es links (All-tail P l links h))

-- all links that are still held come back
pub all_back : (es : Events) (h : Holding) (before now later : Option (List ReturnedLink)) → Meets es h before now → later ≡ with_more now (map as_returned h.links) → AllMeet es h.count before later
all_back es h before now later m e =
    let R : ℕ → ReturnedLink → Type 0 = λ conn link. MeetsReturned (course conn es) link in record {
      in_place = m.in_place;
      conns = m.conns ++ map held_conn h.links;
      back = record {
        links = m.back.links ++ map as_returned h.links;
        told = e ∙ ap (λ t. with_more t (map as_returned h.links)) m.back.told ∙ with_two before m.back.links (map as_returned h.links);
        meet = zip_append R m.conns (map held_conn h.links) m.back.links (map as_returned h.links) m.back.meet (zip_held es h.links m.held);
      };
      each = λ n lt. list_any-append (λ c. c == n) m.conns (map held_conn h.links) ∙ m.each n lt;
      once = omega (arith, m.once, length-append m.conns (map held_conn h.links), length-map h.links held_conn);
      later = m.later;
    }

above_push : (k : ℕ) (xs : List Held) (l : Held) → AllAbove held_conn k xs → k < l.conn → AllAbove held_conn k (xs ++ l ∷ [])
above_push k [] l h lt = (lt, tt)
above_push k (x ∷ xs) l h lt = (h.0, above_push k xs l h.1 lt)

by_id_push : (xs : List Held) (l : Held) → IsById held_conn xs → All (λ (x : Held). x.conn < l.conn) xs → IsById held_conn (xs ++ l ∷ [])
by_id_push [] l h below = (tt, tt)
by_id_push (x ∷ xs) l h below =
    let P : Held → Type 0 = λ x. x.conn < l.conn in
    (above_push x.conn xs l h.0 (All-head P x xs below), by_id_push xs l h.1 (All-tail P x xs below))

-- the link with the next number
pub numbered_push : (xs : List Held) (l : Held) (count : ℕ) → l.conn ≡ count → AreNumbered xs count → AreNumbered (xs ++ l ∷ []) (count + 1)
numbered_push xs l count e h = record {
  ascend = by_id_push xs l h.ascend (λ k d lt. omega (arith, e, h.below k d lt));
  below = All-append (λ (x : Held). x.conn < count + 1) xs (l ∷ []) (λ k d lt. omega (arith, h.below k d lt)) (All-cons (λ (x : Held). x.conn < count + 1) l [] (omega (arith, e)) (All-nil (λ (x : Held). x.conn < count + 1)));
}

none_told : {A : Type 0} (o : Option (List A)) → IsEmptyIfTold o → IsIfTold [] o
none_told None h = tt
none_told (Some xs) h = h

none_front : {A : Type 0} (o : Option (List A)) → IsEmptyIfTold o → IsFrontIfTold [] o
none_front None h = tt
none_front (Some xs) h = ([], append-nil xs ∙ h)

new_meets : (l : Held) → IsNewLink l.tale l.faults → l.done ≡ false → MeetsHeld (Open [] []) l
new_meets l n d = record {
  meets = record {
    opened = refl;
    gave = none_told l.tale.gave n.gave;
    front = none_front l.tale.sent n.sent;
    whole = λ z. none_told l.tale.sent n.sent;
    lost = λ e. absurd (cc);
  };
  in_use = λ u. (refl, (n.sound, n.open_yet));
  done = λ u o. absurd (cc);
}

-- a link that was just given is open
pub let_in : (links : List Held) (count : ℕ) (l : Held) → AreNumbered links count → l.conn ≡ count → IsNewLink l.tale l.faults → l.done ≡ false
    → MovesBy ((count, Opens) ∷ []) (record { links = links; count = count }) (record { links = links ++ l ∷ []; count = count + 1 })
let_in links count l h e n d = λ es before now m.
    let P : Held → Type 0 = λ x. MeetsHeld (course x.conn (es ++ (count, Opens) ∷ [])) x in record {
      in_place = passes_join is_in_place [] es ((count, Opens) ∷ []) m.in_place (ap (λ (c : Course). not (is_opened c)) (m.later count (omega arith)), tt);
      held = All-append P links (l ∷ []) (λ k x lt. older es (get_or links k x) (h.below k x lt) (m.held k x lt)) (All-cons P l [] (newest es (m.later count (omega arith))) (All-nil P));
      ascend = by_id_push links l m.ascend (λ k x lt. omega (arith, e, h.below k x lt));
      conns = m.conns;
      back = record { links = m.back.links; told = m.back.told; meet = back_stays es ((count, Opens) ∷ []) m.conns m.back.links m.over m.back.meet };
      over = over_more es ((count, Opens) ∷ []) m.conns m.over;
      each = λ c lt.
          subst (λ b. (is_among c m.conns || b) ≡ true) (sym (ap (is_among c) (map-append held_conn links (l ∷ [])) ∙ list_any-append (λ n. n == c) (map held_conn links) (l.conn ∷ [])))
          (elim (cases_lt c count) [
            | inl below ↦ kept (is_among c m.conns) (has_conn c links) (l.conn == c) (m.each c below)
            | inr ge ↦ (let same : l.conn ≡ c = omega (arith, e, lt, ge) in last (is_among c m.conns) (has_conn c links) (l.conn == c) (eq-eqb l.conn c same))
          ]);
      once = omega (arith, m.once, length-append links (l ∷ []));
      later = λ c le.
          course-append c es ((count, Opens) ∷ []) ∙ leaves_other count c (course c es) (Opens ∷ []) (differs count c (λ same. omega (arith, le, same))) ∙ m.later c (omega (arith, le));
    }
  where
    older : (es : Events) (x : Held) → x.conn < count → MeetsHeld (course x.conn es) x → MeetsHeld (course x.conn (es ++ (count, Opens) ∷ [])) x
    older es x lt was =
        let stays : course x.conn (es ++ (count, Opens) ∷ []) ≡ course x.conn es =
        course-append x.conn es ((count, Opens) ∷ []) ∙ leaves_other count x.conn (course x.conn es) (Opens ∷ []) (differs count x.conn (λ same. omega (arith, lt, same))) in
        subst (λ c. MeetsHeld c x) (sym stays) was

    newest : (es : Events) → course count es ≡ Unopened → MeetsHeld (course l.conn (es ++ (count, Opens) ∷ [])) l
    newest es was =
        let opens : course l.conn (es ++ (count, Opens) ∷ []) ≡ Open [] [] =
        ap (λ n. course n (es ++ (count, Opens) ∷ [])) e ∙ after_one es count Opens ∙ ap (λ c. moved c Opens) was in
        subst (λ c. MeetsHeld c l) (sym opens) (new_meets l n d)

    kept : (a b k : Bool) → (a || b) ≡ true → (a || (b || (k || false))) ≡ true
    kept true b k h = refl
    kept false true k h = refl
    kept false false k h = absurd (cc)

    last : (a b k : Bool) → k ≡ true → (a || (b || (k || false))) ≡ true
    last true b k h = refl
    last false true k h = refl
    last false false true h = refl
    last false false false h = h
