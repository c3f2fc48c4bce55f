-- The looks of one call that goes over the senders.
use Rattle.std.proofs.Common.{◌≡◌, ◌≢◌, ℕ, zero, suc, ◌+◌, ◌<◌, ◌≤◌, ◌==◌, Bool, true, false, List, [], ◌∷◌, ◌++◌, map, get_or, cond, eqb, sym, refl, ap, ◌∙◌, subst, ⊎_elim, append_assoc, arith}
use Rattle.std.specs.List.{filter, range_with_len}
use Rattle.std.proofs.lemmas.List.{append-nil, map-append}
use Rattle.std.proofs.lemmas.List.Elements.{filter-append}
use Rattle.std.proofs.Common.{lt_of_not-le}
use Rattle.std.proofs.lemmas.Bool.Decides.{eqb_tells}
use mathlib.Core.Logic.{dite}
use native.Mathlib.Decide.{dec_le}
use Rattle.edit_post.specs.Post.{looked, NotStored}

one_more : (a n : ℕ) → range_with_len a (suc n) ≡ range_with_len a n ++ (a + n) ∷ []
one_more a zero = ap (λ k. k ∷ []) (omega arith)
one_more a (suc n) = ap (λ l. a ∷ l) (one_more (a + 1) n ∙ ap (λ k. range_with_len (a + 1) n ++ k ∷ []) (omega arith))

-- looks at the same marks that find the same
both : {X Y : Type 0} (f g : X → Y) (x : X) (xs : List X) (b : Bool) → f x ≡ g x → map f xs ≡ map g xs → map f (cond b (x ∷ xs) xs) ≡ map g (cond b (x ∷ xs) xs)
both f g x xs true e h = ap (λ y. y ∷ map f xs) e ∙ ap (λ l. g x ∷ l) h
both f g x xs false e h = h

same : (p : ℕ → Bool) (f g : ℕ → ℕ × ℕ) (a n : ℕ) → ((q : ℕ) → q < a + n → f q ≡ g q) → map f (filter p (range_with_len a n)) ≡ map g (filter p (range_with_len a n))
same p f g a zero h = refl
same p f g a (suc n) h = both f g a (filter p (range_with_len (a + 1) n)) (p a) (h a (omega arith)) (same p f g (a + 1) n (λ q lt. h q (omega arith)))

-- the sender and what stands at its mark
abbrev found_of : List ℕ → ℕ → ℕ × ℕ
found_of now sender = (sender, get_or now sender 0)

abbrev unfound : List ℕ → ℕ → Bool
unfound before sender = get_or before sender 0 == 0

module _ (before now : List ℕ) where
  more : (n : ℕ) → looked (n + 1) before now ≡ looked n before now ++ map (found_of now) (cond (get_or before n 0 == 0) (n ∷ []) [])
  more n =
      ap (λ k. looked k before now) (let e : n + 1 ≡ suc n = omega arith in e)
      ∙ ap (λ l. map (found_of now) (filter (unfound before) l)) (one_more 0 n)
      ∙ ap (map (found_of now)) (filter-append (unfound before) (range_with_len 0 n) ((0 + n) ∷ []))
      ∙ map-append (found_of now) (filter (unfound before) (range_with_len 0 n)) (filter (unfound before) ((0 + n) ∷ []))
      ∙ ap (λ (k : ℕ). looked n before now ++ map (found_of now) (cond (get_or before k 0 == 0) (k ∷ []) [])) (let e : 0 + n ≡ n = omega arith in e)

  pub one_look : (mid : List ℕ) (base looks new : List (ℕ × ℕ)) (n : ℕ) → looks ≡ base ++ looked n before mid → ((p : ℕ) → p ≢ n → get_or now p 0 ≡ get_or mid p 0) → (get_or before n 0 ≢ 0 → new ≡ looks)
      → (get_or before n 0 ≡ 0 → new ≡ looks ++ (n, get_or now n 0) ∷ []) → new ≡ base ++ looked (n + 1) before now
  one_look mid base looks new n had others kept looks_now =
      let until : looks ≡ base ++ looked n before now = had ∙ ap (λ l. base ++ l) (same (unfound before) (found_of mid) (found_of now) 0 n (λ q lt. ap (λ (v : ℕ). (q, v)) (sym (others q (λ e. absurd (omega arith)))))) in
      ⊎_elim
      (λ (t : (eqb (get_or before n 0) 0 ≡ true) × (get_or before n 0 ≡ 0)).
      looks_now t.1 ∙ ap (λ l. l ++ (n, get_or now n 0) ∷ []) until ∙ append_assoc base (looked n before now) ((n, get_or now n 0) ∷ [])
      ∙ ap (λ l. base ++ l) (ap (λ (b : Bool). looked n before now ++ map (found_of now) (cond b (n ∷ []) [])) (sym t.0) ∙ sym (more n)))
      (λ (t : (eqb (get_or before n 0) 0 ≡ false) × (get_or before n 0 ≢ 0)).
      kept t.1 ∙ until
      ∙ ap (λ l. base ++ l) (sym (append-nil (looked n before now)) ∙ ap (λ (b : Bool). looked n before now ++ map (found_of now) (cond b (n ∷ []) [])) (sym t.0) ∙ sym (more n)))
      (eqb_tells (get_or before n 0) 0)

  -- what was not stored at an earlier look stays said
  pub one_unstored : (mid : List ℕ) (base : List (ℕ × ℕ)) (n : ℕ) → ((p : ℕ) → p ≢ n → get_or now p 0 ≡ get_or mid p 0)
      → ((p : ℕ) → p < n → get_or mid p 0 ≡ 0 → NotStored p (base ++ looked (p + 1) before mid)) → (get_or now n 0 ≡ 0 → NotStored n (base ++ looked (n + 1) before now))
      → (p : ℕ) → p < n + 1 → get_or now p 0 ≡ 0 → NotStored p (base ++ looked (p + 1) before now)
  one_unstored mid base n others had last p lt none = dite (dec_le n p)
      (λ (le : n ≤ p). let here : n ≡ p = omega arith in subst (λ (k : ℕ). get_or now k 0 ≡ 0 → NotStored k (base ++ looked (k + 1) before now)) here last none)
      (λ not. let low : p < n = lt_of_not-le not in
      subst (λ l. NotStored p (base ++ l)) (same (unfound before) (found_of mid) (found_of now) 0 (p + 1) (λ q lt'. ap (λ (v : ℕ). (q, v)) (sym (others q (λ e. absurd (omega arith))))))
      (had p low (sym (others p (λ e. absurd (omega arith))) ∙ none)))
