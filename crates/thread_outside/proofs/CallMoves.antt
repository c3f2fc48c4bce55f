-- Each move of a door's queue keeps its rule.
use Rattle.std.proofs.Common.{◌≡◌, ◌≢◌, ℕ, ◌+◌, ◌<◌, ◌≤◌, ◌==◌, ◌||◌, Bool, true, false, true≢false, cond, eqb, List, [], ◌∷◌, ◌++◌, length, set, sym, refl, ap, ◌∙◌, subst, ⊎_elim, lt_of_not-le, append_assoc, is_none, Result, Ok, Err, MatchResult, arith}
use Rattle.std.proofs.lemmas.List.Elements.{filter-append}
use Rattle.std.proofs.lemmas.List.Folds.{list_any-append}
use Rattle.std.proofs.lemmas.List.{append-nil}
use Rattle.std.proofs.lemmas.Bool.Decides.{Decides-eqb, eqb_tells}
use mathlib.Core.Logic.{dite}
use native.Mathlib.Decide.{dec_le}
use mathlib.Core.Option.{some}
use lib.ListN.{get_elem?}
use Rattle.crossbeam_queue.specs.Fifo.{Pushes, Pops, Forks, Learns}
use Rattle.thread_outside.proofs.Views.{each_none, each_set, each_snoc, no}
use Rattle.thread_outside.specs.declared.call_view.CallView.{CallView}
use Rattle.thread_outside.specs.CallLists.{CallState, calls_of, has_end, EndIsLast}
use Rattle.thread_outside.specs.CallRule.{all_of, view_of, opening, with_caller, new_caller, spent, after_put, with_empty_take, KeepsCalls, TakesInTurn}

at_new : (p made : ℕ) (new old : ℕ) → p ≡ made → cond (p == made) new old ≡ new
at_new p made new old e = ap (λ c. cond c new old) ((Decides-eqb p made).1 e)

at_old : (p made : ℕ) (new old : ℕ) → p ≢ made → cond (p == made) new old ≡ old
at_old p made new old n = ap (λ c. cond c new old) (⊎_elim (λ t. absurd (n t.1)) (λ t. t.0) (eqb_tells p made))

-- the test of `calls_of`
abbrev is_by : ℕ → CallState → Bool
is_by p c = c.caller == p

-- the test of `has_end`
abbrev is_end : CallState → Bool
is_end c = is_none c.ends

one : (b : Bool) (x : CallState) → b ≡ true → cond b (x ∷ []) [] ≡ x ∷ []
one b x e = ap (λ c. cond c (x ∷ []) []) e

none_of : (b : Bool) (x : CallState) → b ≡ false → cond b (x ∷ []) [] ≡ []
none_of b x e = ap (λ c. cond c (x ∷ []) []) e

own : (p : ℕ) (x : CallState) → x.caller ≡ p → calls_of p (x ∷ []) ≡ x ∷ []
own p x e = one (is_by p x) x ((Decides-eqb x.caller p).1 e)

other : (p : ℕ) (x : CallState) → x.caller ≢ p → calls_of p (x ∷ []) ≡ []
other p x n = none_of (is_by p x) x (⊎_elim (λ t. absurd (n t.1)) (λ t. t.0) (eqb_tells x.caller p))

-- a call that joins at the back
added : (p : ℕ) (taken items : List CallState) (x : CallState) → all_of p taken (items ++ x ∷ []) ≡ all_of p taken items ++ calls_of p (x ∷ [])
added p taken items x = ap (λ l. calls_of p taken ++ l) (filter-append (is_by p) items (x ∷ [])) ∙ sym (append_assoc (calls_of p taken) (calls_of p items) (calls_of p (x ∷ [])))

-- a call that moves from the queue to the door
moved : (p : ℕ) (taken items : List CallState) (x : CallState) → all_of p (taken ++ x ∷ []) items ≡ all_of p taken (x ∷ items)
moved p taken items x =
    ap (λ l. l ++ calls_of p items) (filter-append (is_by p) taken (x ∷ []))
    ∙ append_assoc (calls_of p taken) (calls_of p (x ∷ [])) (calls_of p items)
    ∙ ap (λ l. calls_of p taken ++ l) (sym (filter-append (is_by p) (x ∷ []) items))

abbrev Dials : ℕ → (ℕ → ℕ) → List CallState → List CallState → ℕ → CallView → Type 0
Dials made dial_at taken items j v = v.calls ≡ true → (dial_at v.caller ≡ j) × (v.put ≡ all_of v.caller taken items) × (v.caller < made)

abbrev Takes : ℕ → ℕ → List CallState → ℕ → CallView → Type 0
Takes door_at made taken j v = v.takes ≡ true → (j ≡ door_at) × (v.taken ≡ taken) × (v.made ≡ made)

or_false_left : (a b : Bool) → (a || b) ≡ false → a ≡ false
or_false_left true b e = e
or_false_left false b e = refl

or_false_right : (a b : Bool) → (a || b) ≡ false → b ≡ false
or_false_right true b e = absurd (true≢false e)
or_false_right false b e = e

-- anything may follow where there is no end yet
last_snoc : (l : List CallState) (x : CallState) → has_end l ≡ false → EndIsLast (l ++ x ∷ [])
last_snoc [] x h = (λ _. refl, tt)
last_snoc (c ∷ cs) x h = (λ t. absurd (true≢false (sym t ∙ or_false_left (is_end c) (has_end cs) h)), last_snoc cs x (or_false_right (is_end c) (has_end cs) h))

apart : (x : CallState) (xs : List CallState) → x ∷ xs ≡ [] → ⊥
apart x xs e = cc

tail_end : (b : Bool) (cs r : List CallState) → (b ≡ true → cs ++ r ≡ []) → (b || has_end cs) ≡ true → (has_end cs ≡ true → r ≡ []) → r ≡ []
tail_end true [] r last h rest = last refl
tail_end true (d ∷ ds) r last h rest = absurd (apart d (ds ++ r) (last refl))
tail_end false cs r last h rest = rest h

-- nothing is left after an end
nothing_after : (l r : List CallState) → EndIsLast (l ++ r) → has_end l ≡ true → r ≡ []
nothing_after [] r s h = absurd (true≢false (sym h))
nothing_after (c ∷ cs) r s h = tail_end (is_end c) cs r s.0 h (nothing_after cs r s.1)

pub opens : KeepsCalls [] (opening ∷ [])
opens = record {
  door_at = 0;
  dial_at = λ p. 0;
  made = 0;
  taken = [];
  once = λ p. tt;
  unmade = λ p _. refl;
  dials = each_snoc (Dials 0 (λ p. 0) [] []) [] opening (no refl) (each_none _);
  door = each_snoc (Takes 0 0 []) [] opening (λ _. (refl, refl, refl)) (each_none _);
}

pub forks : (port : ℕ) (v : CallView) → v.takes ≡ true → Forks KeepsCalls port v (with_caller v) (new_caller v)
forks port v takes items views d at =
    let mine = d.door port v at takes in
    let cut : List CallView = set views port (with_caller v) in
    let dial_at : ℕ → ℕ = λ p. cond (p == d.made) (length cut) (d.dial_at p) in
    let F : ℕ → CallView → Type 0 = Dials (d.made + 1) dial_at d.taken items in
    let G : ℕ → CallView → Type 0 = Takes d.door_at (d.made + 1) d.taken in record {
      door_at = d.door_at;
      dial_at = dial_at;
      made = d.made + 1;
      taken = d.taken;
      once = d.once;
      unmade = λ p le. d.unmade p (omega arith);
      dials = each_snoc F cut (new_caller v)
          (λ _. (at_new v.made d.made (length cut) (d.dial_at v.made) mine.2, sym (d.unmade v.made (omega (arith, mine.2))), omega (arith, mine.2)))
          (each_set F views port (with_caller v)
          (λ calls. let theirs = d.dials port v at calls in
          (at_old v.caller d.made (length cut) (d.dial_at v.caller) (λ same. let low = theirs.2 in absurd (omega arith)) ∙ theirs.0, theirs.1, let low = theirs.2 in omega arith))
          (λ j u far e calls. let theirs = d.dials j u e calls in
          (at_old u.caller d.made (length cut) (d.dial_at u.caller) (λ same. let low = theirs.2 in absurd (omega arith)) ∙ theirs.0, theirs.1, let low = theirs.2 in omega arith)));
      door = each_snoc G cut (new_caller v) (no refl)
          (each_set G views port (with_caller v) (λ _. (mine.0, mine.1, ap (λ n. n + 1) mine.2)) (λ j u far e takes'. absurd (far ((d.door j u e takes').0 ∙ sym mine.0))));
    }

once_push : (taken items : List CallState) (x : CallState) → ((p : ℕ) → EndIsLast (all_of p taken items)) → has_end (all_of x.caller taken items) ≡ false → (p : ℕ) → EndIsLast (all_of p taken (items ++ x ∷ []))
once_push taken items x h unended p = ⊎_elim
    (λ (t : (eqb x.caller p ≡ true) × (x.caller ≡ p)). subst EndIsLast (sym (added p taken items x ∙ ap (λ l. all_of p taken items ++ l) (own p x t.1)))
    (last_snoc (all_of p taken items) x (sym (ap (λ q. has_end (all_of q taken items)) t.1) ∙ unended)))
    (λ (t : (eqb x.caller p ≡ false) × (x.caller ≢ p)). subst EndIsLast (sym (added p taken items x ∙ ap (λ l. all_of p taken items ++ l) (other p x t.1) ∙ append-nil (all_of p taken items))) (h p))
    (eqb_tells x.caller p)

pub pushes : (n port : ℕ) (v : CallView) (x : CallState) → v.calls ≡ true → v.takes ≡ false → x.caller ≡ v.caller → has_end v.put ≡ false → Pushes KeepsCalls n port v x (λ w. w ≡ after_put v x)
pushes n port v x may apart by unended items views _ d at =
    let mine = d.dials port v at may in
    let w : CallView = after_put v x in (
      w,
      record {
        door_at = d.door_at;
        dial_at = d.dial_at;
        made = d.made;
        taken = d.taken;
        once = once_push d.taken items x d.once (ap (λ p. has_end (all_of p d.taken items)) by ∙ sym (ap has_end mine.1) ∙ unended);
        unmade = λ p le. added p d.taken items x ∙ ap (λ l. l ++ calls_of p (x ∷ [])) (d.unmade p le) ∙ other p x (λ e. let low = mine.2 in absurd (omega arith));
        dials = each_set (Dials d.made d.dial_at d.taken (items ++ x ∷ [])) views port w
            (λ _. (mine.0, ap (λ l. l ++ x ∷ []) mine.1 ∙ ap (λ l. all_of v.caller d.taken items ++ l) (sym (own v.caller x by)) ∙ sym (added v.caller d.taken items x), mine.2))
            (λ j u far e calls. let theirs = d.dials j u e calls in
            let strange : x.caller ≢ u.caller = λ same. far (sym theirs.0 ∙ ap d.dial_at (sym same ∙ by) ∙ mine.0) in
            (theirs.0, theirs.1 ∙ sym (append-nil (all_of u.caller d.taken items)) ∙ ap (λ l. all_of u.caller d.taken items ++ l) (sym (other u.caller x strange)) ∙ sym (added u.caller d.taken items x), theirs.2));
        door = each_set (Takes d.door_at d.made d.taken) views port w (no apart) (λ j u far e. d.door j u e);
      },
      refl,
    )

nonempty : (xs ys : List CallState) (x : CallState) → xs ++ (x ∷ ys) ≡ [] → ⊥
nonempty [] ys x e = cc
nonempty (z ∷ zs) ys x e = cc

-- a call in the queue is of a dial that was made
low_caller : (made : ℕ) (taken items : List CallState) (x : CallState) (n : ℕ) → n ≡ made → ((p : ℕ) → made ≤ p → all_of p taken (x ∷ items) ≡ []) → x.caller < n
low_caller made taken items x n is unmade = dite (dec_le n x.caller)
    (λ (t : n ≤ x.caller). absurd (nonempty (calls_of x.caller taken) (calls_of x.caller items) x (sym (ap (λ l. calls_of x.caller taken ++ l) (filter-append (is_by x.caller) (x ∷ []) items ∙ ap (λ l. l ++ calls_of x.caller items) (own x.caller x refl))) ∙ unmade x.caller (omega arith))))
    (λ t. lt_of_not-le t)

-- a take with so many takes that found nothing
abbrev took_and : ℕ → CallView → CallState → CallView
took_and n v x = view_of v.calls v.caller v.put v.takes v.made (v.taken ++ x ∷ []) n

pub counts : (port : ℕ) (v : CallView) → v.takes ≡ true → Forks KeepsCalls port v (with_empty_take v) spent
counts port v takes items views d at =
    let cut : List CallView = set views port (with_empty_take v) in
    let F : ℕ → CallView → Type 0 = Dials d.made d.dial_at d.taken items in
    let G : ℕ → CallView → Type 0 = Takes d.door_at d.made d.taken in record {
      door_at = d.door_at;
      dial_at = d.dial_at;
      made = d.made;
      taken = d.taken;
      once = d.once;
      unmade = d.unmade;
      dials = each_snoc F cut spent (no refl) (each_set F views port (with_empty_take v) (λ calls. d.dials port v at calls) (λ j u far e. d.dials j u e));
      door = each_snoc G cut spent (no refl) (each_set G views port (with_empty_take v) (λ t. d.door port v at t) (λ j u far e. d.door j u e));
    }

pub pops : (n port : ℕ) (v : CallView) → v.takes ≡ true → Pops KeepsCalls port v (λ x w. (w ≡ took_and n v x) × (x.caller < v.made))
pops n port v takes x items views d at =
    let mine = d.door port v at takes in
    let w : CallView = took_and n v x in
    let taken : List CallState = d.taken ++ x ∷ [] in (
      w,
      record {
        door_at = d.door_at;
        dial_at = d.dial_at;
        made = d.made;
        taken = taken;
        once = λ p. subst EndIsLast (sym (moved p d.taken items x)) (d.once p);
        unmade = λ p le. moved p d.taken items x ∙ d.unmade p le;
        dials = each_set (Dials d.made d.dial_at taken items) views port w
            (λ calls. let theirs = d.dials port v at calls in (theirs.0, theirs.1 ∙ sym (moved v.caller d.taken items x), theirs.2))
            (λ j u far e calls. let theirs = d.dials j u e calls in (theirs.0, theirs.1 ∙ sym (moved u.caller d.taken items x), theirs.2));
        door = each_set (Takes d.door_at d.made taken) views port w (λ _. (mine.0, ap (λ l. l ++ x ∷ []) mine.1, mine.2))
            (λ j u far e takes'. absurd (far ((d.door j u e takes').0 ∙ sym mine.0)));
      },
      (refl, low_caller d.made d.taken items x v.made mine.2 d.unmade),
    )

pub sees : (port : ℕ) (v : CallView) → Learns KeepsCalls port v (λ items. (views : List CallView) × (port : ℕ) × KeepsCalls items views × (get_elem? views port ≡ some v))
sees port v items views d at = (views, port, d, at)

pub in_turn : (items : List CallState) (views : List CallView) → KeepsCalls items views → TakesInTurn items views
in_turn items views d j k door dial door_there takes dial_there calls =
    let same : d.taken ≡ door.taken = sym (d.door j door door_there takes).1 in (
      (d.dials k dial dial_there calls).1 ∙ ap (λ l. calls_of dial.caller l ++ calls_of dial.caller items) same,
      λ ended. nothing_after (calls_of dial.caller door.taken) (calls_of dial.caller items)
          (subst (λ (l : List CallState). EndIsLast (calls_of dial.caller l ++ calls_of dial.caller items)) same (d.once dial.caller)) ended,
    )

-- a call that is no end leaves its dial's pass without an end
pub stays : (old new : CallView) (x : CallState) (result : Result (Unit {0}) CallState) → MatchResult result (λ _. new ≡ after_put old x) (λ back. (back ≡ x) × (new ≡ old))
    → has_end old.put ≡ false → is_none x.ends ≡ false → (new.calls ≡ old.calls) × (new.takes ≡ old.takes) × (new.caller ≡ old.caller) × (has_end new.put ≡ false)
stays old new x (Ok u) e h n = (
  ap (λ (v : CallView). v.calls) e,
  ap (λ (v : CallView). v.takes) e,
  ap (λ (v : CallView). v.caller) e,
  ap (λ (v : CallView). has_end v.put) e ∙ list_any-append is_end old.put (x ∷ []) ∙ ap (λ b. b || has_end (x ∷ [])) h ∙ ap (λ b. b || false) n,
)
stays old new x (Err back) e h n = (
  ap (λ (v : CallView). v.calls) e.1,
  ap (λ (v : CallView). v.takes) e.1,
  ap (λ (v : CallView). v.caller) e.1,
  ap (λ (v : CallView). has_end v.put) e.1 ∙ h,
)
