-- The items of one kind, among those of all kinds.
use Rattle.std.proofs.Common.{◌≡◌, refl, ap, ◌∙◌, List, [], ◌∷◌, ◌++◌, map}
use Rattle.std.specs.Prelude.{flat_map}
use Rattle.std.specs.List.{AllZip}

module _ {E D : Type 0} (made : E → D) where
  -- a list of its own kind
  pub own : (of : D → List E) → ((e : E) → of (made e) ≡ e ∷ []) → (es : List E) (later : List D) → flat_map of (map made es ++ later) ≡ es ++ flat_map of later
  own of one [] later = refl
  own of one (e ∷ es) later = ap (λ (l : List E). l ++ flat_map of (map made es ++ later)) (one e) ∙ ap (λ (l : List E). e ∷ l) (own of one es later)

  -- a list of another kind
  pub other : {X : Type 0} (of : D → List X) → ((e : E) → of (made e) ≡ []) → (es : List E) (later : List D) → flat_map of (map made es ++ later) ≡ flat_map of later
  other of none [] later = refl
  other {X} of none (e ∷ es) later = ap (λ (l : List X). l ++ flat_map of (map made es ++ later)) (none e) ∙ other of none es later

  -- if each part of one kind gives only its kind, then what they gave stands in front
  pub in_front : {P Q : Type 0} (Gives : Q → D → Type 0) (G : P → E → Type 0) (part : P → Q)
      → ((p : P) (d : D) → Gives (part p) d → (e : E) × (d ≡ made e) × G p e)
      → (ps : List P) (rest : List Q) (ds : List D) → AllZip Gives (map part ps ++ rest) ds
      → (es : List E) × (later : List D) × (ds ≡ map made es ++ later) × AllZip G ps es × AllZip Gives rest later
  in_front Gives G part fits [] rest ds gave = ([], ds, refl, tt, gave)
  in_front Gives G part fits (p ∷ ps) rest [] gave = absurd gave
  in_front Gives G part fits (p ∷ ps) rest (d ∷ ds) gave =
      let first = fits p d gave.0 in
      let next = in_front Gives G part fits ps rest ds gave.1 in
      (first.0 ∷ next.0, next.1, ap (λ (x : D). x ∷ ds) first.1 ∙ ap (λ (l : List D). made first.0 ∷ l) next.2, (first.2, next.3), next.4)
