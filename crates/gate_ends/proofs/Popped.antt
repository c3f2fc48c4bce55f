-- Items that are taken one by one from the end of a reversed list.
use Rattle.std.proofs.Common.{◌≡◌, ℕ, ◌+◌, List, [], ◌∷◌, ◌++◌, map, flat_map, length, reverse, refl, sym, ap, ◌∙◌, subst, arith, append_assoc, append-nil, length-append}
use Rattle.std.specs.List.{All}
use Rattle.std.proofs.lemmas.List.{reverse-reverse}
use Rattle.std.proofs.lemmas.List.Elements.{All-nil, All-push}
use Rattle.team_run.proofs.Lists.{taken_first}

pub flat_more : {T X : Type 0} (g : T → List X) (xs : List T) (x : T) → flat_map g (xs ++ x ∷ []) ≡ flat_map g xs ++ g x
flat_more g [] x = append-nil (g x)
flat_more g (y ∷ xs) x = ap (λ l. g y ++ l) (flat_more g xs x) ∙ sym (append_assoc (g y) (flat_map g xs) (g x))

-- of all items these are left, in reverse; what was made of the others was added
pub record Passed {T X : Type 0} (P : T → Type 0) (g : T → List X) (all left : List T) (old new : List X) : Type 0 where
  pub done : List T
  pub parts : all ≡ done ++ reverse left
  pub passed : All P done
  pub made : new ≡ old ++ flat_map g done

module _ {T X : Type 0} (P : T → Type 0) (g : T → List X) (all : List T) (old : List X) where
  pub passed_none : (left : List T) → left ≡ reverse all → Passed P g all left old old
  passed_none left is = record { done = []; parts = sym (ap reverse is ∙ reverse-reverse all); passed = All-nil P; made = sym (append-nil old) }

  pub passed_one : (left rest : List T) (new more : List X) (x : T) → Passed P g all left old new → left ≡ rest ++ x ∷ [] → P x → more ≡ new ++ g x → Passed P g all rest old more
  passed_one left rest new more x p popped holds added = record {
    done = p.done ++ x ∷ [];
    parts = p.parts ∙ ap (λ l. p.done ++ l) (taken_first left rest x popped) ∙ sym (append_assoc p.done (x ∷ []) (reverse rest));
    passed = All-push P p.done x p.passed holds;
    made = added ∙ ap (λ l. l ++ g x) p.made ∙ append_assoc old (flat_map g p.done) (g x) ∙ ap (λ l. old ++ l) (sym (flat_more g p.done x));
  }

  pub passed_all : (left : List T) (new : List X) → Passed P g all left old new → left ≡ [] → All P all × (new ≡ old ++ flat_map g all)
  passed_all left new p none =
      let is : all ≡ p.done = p.parts ∙ ap (λ l. p.done ++ reverse l) none ∙ append-nil p.done in
      (subst (All P) (sym is) p.passed, p.made ∙ ap (λ l. old ++ flat_map g l) (sym is))

-- one of each
pub flat_one : {T X : Type 0} (f : T → X) (xs : List T) → flat_map (λ x. f x ∷ []) xs ≡ map f xs
flat_one f [] = refl
flat_one f (x ∷ xs) = ap (λ l. f x ∷ l) (flat_one f xs)

abbrev pub Anything : {T : Type 0} → T → Type 0
Anything x = Unit {0}

pub flat_itself : {T : Type 0} (xs : List T) → flat_map (λ x. x ∷ []) xs ≡ xs
flat_itself [] = refl
flat_itself (x ∷ xs) = ap (λ l. x ∷ l) (flat_itself xs)

-- how many there are with those of the items that are left, when one item more was taken
pub one_less : {T X : Type 0} (g : T → List X) (now rest : List T) (x : T) (old new : List X) (sum : ℕ) → now ≡ rest ++ x ∷ [] → new ≡ old ++ g x → length old + length (flat_map g now) ≡ sum → length new + length (flat_map g rest) ≡ sum
one_less g now rest x old new sum is made kept =
    let all : length (flat_map g now) ≡ length (flat_map g rest) + length (g x) = ap (λ l. length (flat_map g l)) is ∙ ap length (flat_more g rest x) ∙ length-append (flat_map g rest) (g x) in
    let more : length new ≡ length old + length (g x) = ap length made ∙ length-append old (g x) in
    omega (arith, kept, all, more)
