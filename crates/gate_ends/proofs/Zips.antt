-- Lists whose items are related place by place.
use Rattle.std.proofs.Common.{◌≡◌, suc, List, [], ◌∷◌, length, refl, ap}
use Rattle.std.specs.List.{AllZip}

module _ {A B D : Type 0} (R : A → B → Type 0) (S : B → D → Type 0) (T : A → D → Type 0) (both : (a : A) (b : B) (d : D) → R a b → S b d → T a d) where
  pub zip_on : (xs : List A) (ys : List B) (zs : List D) → AllZip R xs ys → AllZip S ys zs → AllZip T xs zs
  zip_on [] [] [] r s = tt
  zip_on [] [] (d ∷ zs) r s = elim s [ ]
  zip_on [] (b ∷ ys) zs r s = elim r [ ]
  zip_on (a ∷ xs) [] zs r s = elim r [ ]
  zip_on (a ∷ xs) (b ∷ ys) [] r s = elim s [ ]
  zip_on (a ∷ xs) (b ∷ ys) (d ∷ zs) r s = (both a b d r.0 s.0, zip_on xs ys zs r.1 s.1)

-- as many in the one list as in the other
pub many_zip : {A B : Type 0} (R : A → B → Type 0) (xs : List A) (ys : List B) → AllZip R xs ys → length ys ≡ length xs
many_zip R [] [] h = refl
many_zip R [] (y ∷ ys) h = elim h [ ]
many_zip R (x ∷ xs) [] h = elim h [ ]
many_zip R (x ∷ xs) (y ∷ ys) h = ap suc (many_zip R xs ys h.1)
