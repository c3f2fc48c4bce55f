-- Each step on a flag keeps its rule.
use Rattle.std.proofs.Common.{◌≡◌, ◌≢◌, ℕ, zero, suc, ◌+◌, ◌<◌, ◌==◌, Bool, true, false, cond, eqb, List, [], ◌∷◌, ◌++◌, length, get_or, set, length-set, Option, Some, None, MatchOption, option_to_list, sym, refl, ap, ◌∙◌, subst, ⊎_elim, get_or-set_same, arith}
use Rattle.std.specs.Prelude.{⊤}
use Rattle.std.proofs.lemmas.List.{set-get_or}
use Rattle.std.proofs.lemmas.Bool.Decides.{eqb_tells}
use mathlib.Core.Option.{none, some, some-ne-none}
use lib.ListN.{get_elem?}
use Rattle.atomic_table.specs.Table.{State, step, opening, keeps, Allows, Splits, Joins}
use Rattle.atomic_table.proofs.Lists.{set_again}
use Rattle.edit_post.proofs.Views.{Each, each_none, each_set, each_snoc, set_same, unset, no, at_new, at_old}
use Rattle.stop_flag.specs.declared.seat_end.SeatEnd.{SeatEnd}
use Rattle.stop_flag.specs.declared.flag_view.FlagView.{FlagView}
use Rattle.stop_flag.specs.Ended.{IsFair}
use Rattle.stop_flag.specs.FlagRule.{Sat, Slot, Names, no_seats, no_seat, with_seat, new_seat, setting, finding, knowing, KeepsFlag, Sets, Finds, Agrees}

abbrev Sits : ℕ → ℕ → (ℕ → ℕ) → (ℕ → Bool) → ℕ → FlagView → Type 0
Sits keeper_at seats seat_at setters j v = v.sits ≡ true
    → (seat_at v.number ≡ j) × (j ≢ keeper_at) × (v.number < seats) × (v.has_set ≡ setters v.number) × ((by : ℕ) → v.found ≡ Some by → Names seats setters by)

abbrev Keeps : ℕ → ℕ → List SeatEnd → ℕ → FlagView → Type 0
Keeps keeper_at seats ended j v = v.keeps ≡ true → (j ≡ keeper_at) × (v.seats ≡ seats) × (v.ended ≡ ended)

abbrev Ends : ℕ → ℕ → (ℕ → ℕ) → (ℕ → Bool) → ℕ → SeatEnd → Type 0
Ends keeper_at seats seat_at setters k e =
    (seat_at e.number ≡ keeper_at) × (e.number < seats) × (e.has_set ≡ setters e.number) × ((by : ℕ) → e.found ≡ Some by → Names seats setters by)

pub opens : KeepsFlag (opening (0 ∷ []) [] no_seats)
opens = record {
  keeper_at = 0;
  seats = 0;
  seat_at = λ n. 0;
  ended = [];
  setters = λ n. false;
  one = refl;
  word = λ by e. absurd (omega (arith, e));
  unmade = λ n _. refl;
  sits = each_snoc (Sits 0 0 (λ n. 0) (λ n. false)) [] no_seats (no refl) (each_none _);
  keeps = each_snoc (Keeps 0 0 []) [] no_seats (λ _. (refl, refl, refl)) (each_none _);
  ends = each_none (Ends 0 0 (λ n. 0) (λ n. false));
}

-- who is named stays named where there is one seat more
more : (seats : ℕ) (setters : ℕ → Bool) (by : ℕ) → Names seats setters by → Names (seats + 1) setters by
more seats setters by n = (let low = n.0 in omega arith, n.1)

at_low : {V : Type 0} (l : List V) (j : ℕ) (v : V) → get_elem? l j ≡ some v → j < length l
at_low [] j v e = absurd (some-ne-none v (sym e))
at_low (x ∷ xs) zero v e = omega arith
at_low (x ∷ xs) (suc j) v e = let low = at_low xs j v e in omega arith

unnamed : {P : Type 0} (by : ℕ) → None ≡ Some by → P
unnamed by e = absurd (subst (λ (o : Option ℕ). MatchOption o ⊤ (λ _. ⊥)) e tt)

pub splits : (id : ℕ) (v : FlagView) → v.keeps ≡ true → Splits KeepsFlag id v (with_seat v) (new_seat v)
splits id v mine s d at =
    let own = d.keeps id v at mine in
    let cut : List FlagView = set s.views id (with_seat v) in
    let seat_at : ℕ → ℕ = λ n. cond (n == d.seats) (length cut) (d.seat_at n) in
    let F : ℕ → FlagView → Type 0 = Sits d.keeper_at (d.seats + 1) seat_at d.setters in
    let G : ℕ → FlagView → Type 0 = Keeps d.keeper_at (d.seats + 1) d.ended in record {
      keeper_at = d.keeper_at;
      seats = d.seats + 1;
      seat_at = seat_at;
      ended = d.ended;
      setters = d.setters;
      one = d.one;
      word = λ by e. more d.seats d.setters by (d.word by e);
      unmade = λ n le. d.unmade n (omega arith);
      sits = each_snoc F cut (new_seat v)
          (λ _. (at_new v.seats d.seats (length cut) (d.seat_at v.seats) own.1, λ same. let low = at_low s.views id v at in absurd (omega (arith, same, own.0, length-set s.views id (with_seat v))), omega (arith, own.1), sym (d.unmade v.seats (omega (arith, own.1))), λ by e. unnamed by e))
          (each_set F s.views id (with_seat v) (no refl)
          (λ j u far e sits. let old = d.sits j u e sits in
          (at_old u.number d.seats (length cut) (d.seat_at u.number) (λ same. let low = old.2 in absurd (omega arith)) ∙ old.0, old.1, (let low = old.2 in omega arith), old.3, λ by f. more d.seats d.setters by (old.4 by f))));
      keeps = each_snoc G cut (new_seat v) (no refl)
          (each_set G s.views id (with_seat v) (λ _. (own.0, ap (λ n. n + 1) own.1, own.2)) (λ j u far e k. absurd (far ((d.keeps j u e k).0 ∙ sym own.0))));
      ends = λ k e f. let old = d.ends k e f in
          (at_old e.number d.seats (length cut) (d.seat_at e.number) (λ same. let low = old.1 in absurd (omega arith)) ∙ old.0, (let low = old.1 in omega arith), old.2, λ by g. more d.seats d.setters by (old.3 by g));
    }

-- A seat that sets the flag: from then on it is among those that have.
abbrev setting_too : (ℕ → Bool) → ℕ → ℕ → Bool
setting_too setters number n = cond (n == number) true (setters n)

still : (setters : ℕ → Bool) (number n : ℕ) → setters n ≡ true → setting_too setters number n ≡ true
still setters number n e = ⊎_elim (λ (t : (eqb n number ≡ true) × (n ≡ number)). ap (λ c. cond c true (setters n)) t.0) (λ (t : (eqb n number ≡ false) × (n ≢ number)). ap (λ c. cond c true (setters n)) t.0 ∙ e) (eqb_tells n number)

itself : (setters : ℕ → Bool) (n : ℕ) → setting_too setters n n ≡ true
itself setters n = ⊎_elim (λ (t : (eqb n n ≡ true) × (n ≡ n)). ap (λ c. cond c true (setters n)) t.0) (λ (t : (eqb n n ≡ false) × (n ≢ n)). absurd (t.1 refl)) (eqb_tells n n)

other : (setters : ℕ → Bool) (number n : ℕ) → n ≢ number → setting_too setters number n ≡ setters n
other setters number n apart = ⊎_elim (λ (t : (eqb n number ≡ true) × (n ≡ number)). absurd (apart t.1)) (λ (t : (eqb n number ≡ false) × (n ≢ number)). ap (λ c. cond c true (setters n)) t.0) (eqb_tells n number)

pub sets : (slots id : ℕ) (m : Sat) (n : ℕ) → m.0.sits ≡ true → m.0.keeps ≡ false → m.0.number + 1 ≡ n → Allows KeepsFlag slots id m 0 (λ _. n) (λ _. Sets (step slots 0 n 0 none) m n)
sets slots id m n sits apart by s d _ at _ =
    let v : FlagView = m.0 in
    let own = d.sits id v at sits in
    let setters : ℕ → Bool = setting_too d.setters v.number in
    let named : (q : ℕ) → Names d.seats d.setters q → Names d.seats setters q = λ q x. (x.0, still d.setters v.number q x.1) in
    let words : List ℕ = set s.words 0 n in
    let now : get_or words 0 0 ≡ n = get_or-set_same s.words 0 n 0 (omega (arith, d.one)) in (
      setting v,
      keeps,
      tt,
      record {
        keeper_at = d.keeper_at;
        seats = d.seats;
        seat_at = d.seat_at;
        ended = d.ended;
        setters = setters;
        one = length-set s.words 0 n ∙ d.one;
        word = λ q e. let same : q ≡ v.number = omega (arith, e, now, by) in subst (λ (k : ℕ). Names d.seats setters k) (sym same) (own.2, itself d.setters v.number);
        unmade = λ k le. other d.setters v.number k (λ same. let low = own.2 in absurd (omega arith)) ∙ d.unmade k le;
        sits = each_set (Sits d.keeper_at d.seats d.seat_at setters) s.views id (setting v)
            (λ _. (own.0, own.1, own.2, sym (itself d.setters v.number), λ q f. named q (own.4 q f)))
            (λ j u far e x. let old = d.sits j u e x in
            (old.0, old.1, old.2, old.3 ∙ sym (other d.setters v.number u.number (λ same. far (sym old.0 ∙ ap d.seat_at same ∙ own.0))), λ q f. named q (old.4 q f)));
        keeps = each_set (Keeps d.keeper_at d.seats d.ended) s.views id (setting v) (no refl) (λ j u far e k. d.keeps j u e k);
        ends = λ k e f. let old = d.ends k e f in
            (old.0, old.1, old.2 ∙ sym (other d.setters v.number e.number (λ same. own.1 (sym own.0 ∙ ap d.seat_at (sym same) ∙ old.0))), λ q g. named q (old.3 q g));
      },
      refl,
    )

some_same : {a b : ℕ} → Some a ≡ Some b → a ≡ b
some_same {a} {b} e = ap (λ (o : Option ℕ). get_or (option_to_list o) 0 a) e

-- what a look finds is named by the word
looked : (seats : ℕ) (setters : ℕ → Bool) (v : FlagView) (n : ℕ) → ((by : ℕ) → n ≡ suc by → Names seats setters by) → ((by : ℕ) → v.found ≡ Some by → Names seats setters by)
    → ((finding v n).sits ≡ true) × ((finding v n).keeps ≡ false) × ((finding v n).number ≡ v.number) × ((finding v n).has_set ≡ v.has_set) × ((by : ℕ) → (finding v n).found ≡ Some by → Names seats setters by)
looked seats setters v zero word had = (refl, refl, refl, refl, had)
looked seats setters v (suc q) word had = (refl, refl, refl, refl, λ by e. word by (ap suc (some_same e)))

pub finds : (slots id : ℕ) (m : Sat) → m.0.sits ≡ true → Allows KeepsFlag slots id m 0 (λ n. n) (Finds (step slots 0 0 0 none) m)
finds slots id m sits s d _ at _ =
    let v : FlagView = m.0 in
    let own = d.sits id v at sits in
    let n : ℕ = get_or s.words 0 0 in
    let w : FlagView = finding v n in
    let new = looked d.seats d.setters v n d.word own.4 in
    let after : State Slot FlagView = record { words = s.words; homes = s.homes; views = set s.views id w } in
    let holds : KeepsFlag after = record {
      keeper_at = d.keeper_at;
      seats = d.seats;
      seat_at = d.seat_at;
      ended = d.ended;
      setters = d.setters;
      one = d.one;
      word = d.word;
      unmade = d.unmade;
      sits = each_set (Sits d.keeper_at d.seats d.seat_at d.setters) s.views id w
          (λ _. (ap d.seat_at new.2 ∙ own.0, own.1, (let low = own.2 in let same = new.2 in omega arith), new.3 ∙ own.3 ∙ ap d.setters (sym new.2), new.4)) (λ j u far e. d.sits j u e);
      keeps = each_set (Keeps d.keeper_at d.seats d.ended) s.views id w (no new.1) (λ j u far e k. d.keeps j u e k);
      ends = d.ends;
    } in (
      w,
      keeps,
      tt,
      subst (λ (ws : List ℕ). KeepsFlag record { words = ws; homes = s.homes; views = set s.views id w }) (sym (set-get_or s.words 0 0)) holds,
      (refl, λ zero_now. (after, id, holds, set_same s.views id w v at, zero_now)),
    )

pub joins : (id : ℕ) (v : FlagView) (from : ℕ) (u : FlagView) → v.keeps ≡ true → u.sits ≡ true → Joins KeepsFlag id v from u (knowing v u) no_seat
joins id v from u mine theirs s d at apart at' =
    let own = d.keeps id v at mine in
    let both : FlagView = knowing v u in
    let told : SeatEnd = record { number = u.number; has_set = u.has_set; found = u.found } in
    let mid : List FlagView = set s.views id both in
    let seat = d.sits from u (unset s.views id from both u apart at') theirs in
    let seat_at : ℕ → ℕ = λ n. cond (n == u.number) d.keeper_at (d.seat_at n) in
    let ended : List SeatEnd = d.ended ++ told ∷ [] in
    let F : ℕ → FlagView → Type 0 = Sits d.keeper_at d.seats seat_at d.setters in
    let G : ℕ → FlagView → Type 0 = Keeps d.keeper_at d.seats ended in
    let now : Each (λ j y. j ≢ from → F j y) mid = each_set (λ j y. j ≢ from → F j y) s.views id both (λ _. no refl)
    (λ j y far e else sits. let old = d.sits j y e sits in
    (at_old y.number u.number d.keeper_at (d.seat_at y.number) (λ same. else (sym old.0 ∙ ap d.seat_at same ∙ seat.0)) ∙ old.0, old.1, old.2, old.3, old.4)) in record {
      keeper_at = d.keeper_at;
      seats = d.seats;
      seat_at = seat_at;
      ended = ended;
      setters = d.setters;
      one = d.one;
      word = d.word;
      unmade = d.unmade;
      sits = each_set F mid from no_seat (no refl) (λ j y else e. now j y e else);
      keeps = each_set G mid from no_seat (no refl) (λ j y else e. each_set G s.views id both
          (λ _. (own.0, own.1, ap (λ l. l ++ told ∷ []) own.2)) (λ k z far e' keeps'. absurd (far ((d.keeps k z e' keeps').0 ∙ sym own.0))) j y e);
      ends = each_snoc (Ends d.keeper_at d.seats seat_at d.setters) d.ended told
          (at_new u.number u.number d.keeper_at (d.seat_at u.number) refl, seat.2, seat.3, seat.4)
          (λ k e f. let old = d.ends k e f in (
            ⊎_elim (λ (t : (eqb e.number u.number ≡ true) × (e.number ≡ u.number)). at_new e.number u.number d.keeper_at (d.seat_at e.number) t.1)
                (λ (t : (eqb e.number u.number ≡ false) × (e.number ≢ u.number)). at_old e.number u.number d.keeper_at (d.seat_at e.number) t.1 ∙ old.0) (eqb_tells e.number u.number),
            old.1,
            old.2,
            old.3,
          ));
    }

pub agrees : (slots id : ℕ) (m : Sat) → m.0.keeps ≡ true → Allows KeepsFlag slots id m 0 (λ n. n) (Agrees (step slots 0 0 0 none) m)
agrees slots id m mine s d _ at _ =
    let v : FlagView = m.0 in
    let own = d.keeps id v at mine in
    let fair : IsFair d.seats d.ended = record {
      low = λ k by e at' f. ((d.ends k e at').3 by f).0;
      set = λ j k e f at' at'' found. (d.ends k f at'').2 ∙ ((d.ends j e at').3 f.number found).1;
    } in (
      v,
      keeps,
      tt,
      subst (λ (x : List ℕ × List FlagView). KeepsFlag record { words = x.0; homes = s.homes; views = x.1 }) (λ i. (sym (set-get_or s.words 0 0) i, sym (set_again s.views id v at) i)) d,
      (refl, subst (λ (x : ℕ × List SeatEnd). IsFair x.0 x.1) (λ i. (sym own.1 i, sym own.2 i)) fair),
    )
