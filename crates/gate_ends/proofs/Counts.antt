-- How many items are made of others.
use Rattle.std.proofs.Common.{◌≡◌, ℕ, zero, suc, ◌+◌, ◌<◌, ◌==◌, true, false, List, [], ◌∷◌, ◌++◌, map, flat_map, length, refl, sym, ap, ap₂, ◌∙◌, arith}
use Rattle.std.specs.List.{AllZip}
use Rattle.std.proofs.lemmas.Bool.{eqb-true, true≢false}
use Rattle.std.proofs.lemmas.List.{length-append}
use Rattle.std.proofs.lemmas.List.Concat.{flat_map-append}

-- one item for each of a kind
pub each_one : {E T X : Type 0} (made : E → T) (of : T → List X) → ((e : E) → length (of (made e)) ≡ 1) → (es : List E) (later : List T)
    → length (flat_map of (map made es ++ later)) ≡ length es + length (flat_map of later)
each_one made of one [] later = omega (arith)
each_one made of one (e ∷ es) later =
    let here = length-append (of (made e)) (flat_map of (map made es ++ later)) in
    let first = one e in
    let more = each_one made of one es later in
    omega (arith, here, first, more)

-- what parts had goes back, whether they were started or not
module _ {T D X : Type 0} (G : T → D → Type 0) (g : T → List X) (h : D → List X) (same : (p : T) (d : D) → G p d → length (h d) ≡ length (g p)) where
  same_many : (ps : List T) (ds : List D) → AllZip G ps ds → length (flat_map h ds) ≡ length (flat_map g ps)
  same_many [] [] z = refl
  same_many [] (d ∷ ds) z = elim z [ ]
  same_many (p ∷ ps) [] z = elim z [ ]
  same_many (p ∷ ps) (d ∷ ds) z =
      length-append (h d) (flat_map h ds) ∙ ap₂ (λ (a b : ℕ). a + b) (same p d z.0) (same_many ps ds z.1) ∙ sym (length-append (g p) (flat_map g ps))

  pub goes_back : (front back : List T) (ds : List D) (none kept all : List X) → AllZip G front ds → none ≡ [] → length kept ≡ length none + length (flat_map g back) → all ≡ kept ++ flat_map h ds
      → length all ≡ length (flat_map g (front ++ back))
  goes_back front back ds none kept all z empty added is =
      let whole = ap length is ∙ length-append kept (flat_map h ds) in
      let zero_items : length none ≡ 0 = ap length empty in
      let given = same_many front ds z in
      let parted = ap length (flat_map-append g front back) ∙ length-append (flat_map g front) (flat_map g back) in
      omega (arith, whole, zero_items, added, given, parted)

-- what is empty has no item, and what is not empty has one
pub none_there : (n : ℕ) → (n == 0) ≡ true → n ≡ 0
none_there n e = eqb-true n 0 e

pub some_there : (n : ℕ) → (n == 0) ≡ false → 0 < n
some_there zero e = absurd (true≢false e)
some_there (suc n) e = omega (arith)
