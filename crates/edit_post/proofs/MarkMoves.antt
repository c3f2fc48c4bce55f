-- Each step on the marks keeps their rule.
use Rattle.std.proofs.Common.{◌≡◌, ◌≢◌, ℕ, zero, suc, ◌+◌, ◌<◌, ◌==◌, true, false, cond, eqb, replicate, List, [], ◌∷◌, length, get_or, set, length-set, sym, refl, ap, ◌∙◌, subst, ⊎_elim, get_or-set_same, get_or-set_other, arith}
use Rattle.std.proofs.lemmas.List.{set-get_or}
use Rattle.std.proofs.lemmas.Bool.Decides.{eqb_tells}
use mathlib.Core.Option.{none}
use Rattle.atomic_table.specs.Table.{State, step, opening, keeps, Allows, Splits, Joins}
use Rattle.atomic_table.proofs.Lists.{set_again}
use Rattle.edit_post.proofs.Views.{Each, each_none, each_set, each_snoc, set_same, unset, no, at_new, at_old}
use Rattle.edit_post.specs.declared.mark_view.MarkView.{MarkView}
use Rattle.edit_post.specs.MarkRule.{Sat, Slot, no_marks, no_mark, with_unfound, unstored, storing, finding, knowing, Marked, Stores, Finds, Agrees}

abbrev Sends : ℕ → (ℕ → ℕ) → List ℕ → ℕ → MarkView → Type 0
Sends made sender_at words j v = v.sends ≡ true → (sender_at v.sender ≡ j) × (get_or words v.sender 0 ≡ v.stored) × (v.sender < made) × (v.sender < 16)

abbrev Found : List ℕ → List ℕ → Type 0
Found words found = (p : ℕ) → get_or found p 0 ≢ 0 → get_or words p 0 ≡ get_or found p 0

abbrev Takes : ℕ → ℕ → List ℕ → ℕ → MarkView → Type 0
Takes taker_at made words j v = v.takes ≡ true → (j ≡ taker_at) × (v.made ≡ made) × Found words v.found

get_set : (found : List ℕ) (p n : ℕ) → get_or (set found p n) p 0 ≢ 0 → n ≡ get_or (set found p n) p 0
get_set [] p n ne = absurd (ne refl)
get_set (x ∷ xs) zero n ne = refl
get_set (x ∷ xs) (suc p) n ne = get_set xs p n ne

abbrev pub zeros : ℕ → List ℕ
zeros n = replicate n 0

pub zeros_at : (n p : ℕ) → get_or (zeros n) p 0 ≡ 0
zeros_at zero p = refl
zeros_at (suc n) zero = refl
zeros_at (suc n) (suc p) = zeros_at n p

-- the word is found
found_set : (words found : List ℕ) (p n : ℕ) → get_or words p 0 ≡ n → Found words found → Found words (set found p n)
found_set words found p n e h q ne =
    ⊎_elim
    (λ (t : (eqb q p ≡ true) × (q ≡ p)). let same : q ≡ p = t.1 in
    subst (λ (k : ℕ). get_or (set found p n) k 0 ≢ 0 → get_or words k 0 ≡ get_or (set found p n) k 0) (sym same) (λ ne'. e ∙ get_set found p n ne') ne)
    (λ (t : (eqb q p ≡ false) × (q ≢ p)). let keep = get_or-set_other found p q n 0 t.1 in h q (λ z. ne (keep ∙ z)) ∙ sym keep) (eqb_tells q p)

-- a word that was 0 changes
found_word : (words found : List ℕ) (p n : ℕ) → get_or words p 0 ≡ 0 → Found words found → Found (set words p n) found
found_word words found p n e h q ne =
    ⊎_elim (λ (t : (eqb q p ≡ true) × (q ≡ p)). absurd (ne (sym (h q ne) ∙ ap (λ k. get_or words k 0) t.1 ∙ e)))
    (λ (t : (eqb q p ≡ false) × (q ≢ p)). get_or-set_other words p q n 0 t.1 ∙ h q ne) (eqb_tells q p)

pub opens : Marked (opening (0 ∷ 0 ∷ 0 ∷ 0 ∷ 0 ∷ 0 ∷ 0 ∷ 0 ∷ 0 ∷ 0 ∷ 0 ∷ 0 ∷ 0 ∷ 0 ∷ 0 ∷ 0 ∷ []) [] no_marks)
opens = let ws : List ℕ = 0 ∷ 0 ∷ 0 ∷ 0 ∷ 0 ∷ 0 ∷ 0 ∷ 0 ∷ 0 ∷ 0 ∷ 0 ∷ 0 ∷ 0 ∷ 0 ∷ 0 ∷ 0 ∷ [] in record {
  taker_at = 0;
  made = 0;
  sender_at = λ p. 0;
  sixteen = refl;
  unmade = λ p _. zeros_at 16 p;
  senders = each_snoc (Sends 0 (λ p. 0) ws) [] no_marks (no refl) (each_none _);
  taker = each_snoc (Takes 0 0 ws) [] no_marks (λ _. (refl, refl, λ p ne. absurd (ne (zeros_at 16 p)))) (each_none _);
}

pub splits : (id : ℕ) (v : MarkView) → v.takes ≡ true → v.made < 16 → Splits Marked id v (with_unfound v) (unstored v)
splits id v takes room s d at =
    let mine = d.taker id v at takes in
    let cut : List MarkView = set s.views id (with_unfound v) in
    let sender_at : ℕ → ℕ = λ p. cond (p == d.made) (length cut) (d.sender_at p) in
    let F : ℕ → MarkView → Type 0 = Sends (d.made + 1) sender_at s.words in
    let G : ℕ → MarkView → Type 0 = Takes d.taker_at (d.made + 1) s.words in record {
      taker_at = d.taker_at;
      made = d.made + 1;
      sender_at = sender_at;
      sixteen = d.sixteen;
      unmade = λ p le. d.unmade p (omega arith);
      senders = each_snoc F cut (unstored v)
          (λ _. (at_new v.made d.made (length cut) (d.sender_at v.made) mine.1, d.unmade v.made (omega (arith, mine.1)), omega (arith, mine.1), room))
          (each_set F s.views id (with_unfound v)
          (λ sends. let own = d.senders id v at sends in
          (at_old v.sender d.made (length cut) (d.sender_at v.sender) (λ same. let low = own.2 in absurd (omega arith)) ∙ own.0, own.1, (let low = own.2 in omega arith), own.3))
          (λ j u far e sends. let own = d.senders j u e sends in
          (at_old u.sender d.made (length cut) (d.sender_at u.sender) (λ same. let low = own.2 in absurd (omega arith)) ∙ own.0, own.1, (let low = own.2 in omega arith), own.3)));
      taker = each_snoc G cut (unstored v) (no refl)
          (each_set G s.views id (with_unfound v) (λ _. (mine.0, ap (λ n. n + 1) mine.1, mine.2))
          (λ j u far e takes'. absurd (far ((d.taker j u e takes').0 ∙ sym mine.0))));
    }

pub stores : (slots id : ℕ) (m : Sat) (p n : ℕ) → m.0.sends ≡ true → m.0.takes ≡ false → m.0.sender ≡ p → m.0.stored ≡ 0 → Allows Marked slots id m p (λ _. n) (λ _. Stores (step slots p n 0 none) m n)
stores slots id m p n may apart by fresh s d _ at _ =
    let v : MarkView = m.0 in
    let mine = d.senders id v at may in
    let was : get_or s.words p 0 ≡ 0 = ap (λ q. get_or s.words q 0) (sym by) ∙ mine.1 ∙ fresh in
    let within : p < length s.words = omega (arith, by, mine.3, d.sixteen) in
    let words : List ℕ = set s.words p n in (
      storing v n,
      keeps,
      tt,
      record {
        taker_at = d.taker_at;
        made = d.made;
        sender_at = d.sender_at;
        sixteen = length-set s.words p n ∙ d.sixteen;
        unmade = λ q le. get_or-set_other s.words p q n 0 (λ same. let low = mine.2 in absurd (omega (arith, by))) ∙ d.unmade q le;
        senders = each_set (Sends d.made d.sender_at words) s.views id (storing v n)
            (λ _. (mine.0, subst (λ (q : ℕ). get_or words q 0 ≡ n) (sym by) (get_or-set_same s.words p n 0 within), mine.2, mine.3))
            (λ j u far e sends. let own = d.senders j u e sends in
            (own.0, get_or-set_other s.words p u.sender n 0 (λ same. far (sym own.0 ∙ ap d.sender_at (same ∙ sym by) ∙ mine.0)) ∙ own.1, own.2, own.3));
        taker = each_set (Takes d.taker_at d.made words) s.views id (storing v n) (no apart)
            (λ j u far e takes. let own = d.taker j u e takes in (own.0, own.1, found_word s.words u.found p n was own.2));
      },
      refl,
    )

pub finds : (slots id : ℕ) (m : Sat) (p : ℕ) → m.0.takes ≡ true → Allows Marked slots id m p (λ n. n) (Finds (step slots p 0 0 none) m)
finds slots id m p takes s d _ at _ =
    let v : MarkView = m.0 in
    let mine = d.taker id v at takes in
    let n : ℕ = get_or s.words p 0 in
    let w : MarkView = finding v p n in
    let after : State Slot MarkView = record { words = s.words; homes = s.homes; views = set s.views id w } in
    let holds : Marked after = record {
      taker_at = d.taker_at;
      made = d.made;
      sender_at = d.sender_at;
      sixteen = d.sixteen;
      unmade = d.unmade;
      senders = each_set (Sends d.made d.sender_at s.words) s.views id w (λ sends. d.senders id v at sends) (λ j u far e. d.senders j u e);
      taker = each_set (Takes d.taker_at d.made s.words) s.views id w
          (λ _. (mine.0, mine.1, found_set s.words v.found p n refl mine.2)) (λ j u far e. d.taker j u e);
    } in (
      w,
      keeps,
      tt,
      subst (λ (ws : List ℕ). Marked record { words = ws; homes = s.homes; views = set s.views id w }) (sym (set-get_or s.words p 0)) holds,
      (refl, λ ne. mine.2 p ne, λ zero_now. (after, id, holds, set_same s.views id w v at, zero_now)),
    )

pub joins : (id : ℕ) (v : MarkView) (from : ℕ) (u : MarkView) → v.takes ≡ true → u.sends ≡ true → Joins Marked id v from u (knowing v u) no_mark
joins id v from u takes sends s d at apart at' =
    let mine = d.taker id v at takes in
    let both : MarkView = knowing v u in
    let mid : List MarkView = set s.views id both in
    let theirs = d.senders from u (unset s.views id from both u apart at') sends in
    let sender_at : ℕ → ℕ = λ p. cond (p == u.sender) id (d.sender_at p) in
    let F : ℕ → MarkView → Type 0 = Sends d.made sender_at s.words in
    let G : ℕ → MarkView → Type 0 = Takes d.taker_at d.made s.words in
    let now : Each (λ j y. j ≢ from → F j y) mid = each_set (λ j y. j ≢ from → F j y) s.views id both
    (λ _ _. (at_new u.sender u.sender id (d.sender_at u.sender) refl, theirs.1, theirs.2, theirs.3))
    (λ j y far e else sends'. let own = d.senders j y e sends' in
    (at_old y.sender u.sender id (d.sender_at y.sender) (λ same. else (sym own.0 ∙ ap d.sender_at same ∙ theirs.0)) ∙ own.0, own.1, own.2, own.3)) in record {
      taker_at = d.taker_at;
      made = d.made;
      sender_at = sender_at;
      sixteen = d.sixteen;
      unmade = d.unmade;
      senders = each_set F mid from no_mark (no refl) (λ j y else e. now j y e else);
      taker = each_set G mid from no_mark (no refl) (λ j y else e. each_set G s.views id both (λ _. mine) (λ k z far e' takes'. d.taker k z e' takes') j y e);
    }

pub agrees : (slots id : ℕ) (m : Sat) → m.0.takes ≡ true → m.0.sends ≡ true → Allows Marked slots id m 0 (λ n. n) (Agrees (step slots 0 0 0 none) m)
agrees slots id m takes sends s d _ at _ =
    let v : MarkView = m.0 in (
      v,
      keeps,
      tt,
      subst (λ (x : List ℕ × List MarkView). Marked record { words = x.0; homes = s.homes; views = x.1 }) (λ i. (sym (set-get_or s.words 0 0) i, sym (set_again s.views id v at) i)) d,
      (refl, λ ne. sym ((d.taker id v at takes).2 v.sender ne) ∙ (d.senders id v at sends).1),
    )
