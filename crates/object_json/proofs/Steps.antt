-- One step of writing after another.
use Rattle.std.proofs.Common.{◌≡◌, ℕ, suc, [], ◌∷◌, ◌++◌, List, ◌∙◌, ap, append_assoc, replicate}
use Rattle.json.specs.Token.{Token, begin_object, end_object}
use Rattle.json.specs.Tree.{items_tokens}
use Rattle.json.specs.Written.{Written}
use Rattle.serde_json.specs.Data.{object, no_members}
use Rattle.serde_json.specs.View.{items_of}
use Rattle.serde_json.specs.Written.{items_outline}
use Rattle.object_json.specs.Added.{HasAdded}

pub joined : {a b c : Written} {s t : List Token} → HasAdded a b s → HasAdded b c t → HasAdded a c (s ++ t)
joined {a} {b} {c} {s} {t} f g = record {
  tokens = g.tokens ∙ ap (λ u. u ++ t) f.tokens ∙ append_assoc a.tokens s t;
  before = g.before ∙ f.before;
}

-- the tokens of the last items of a list of `{}`, and its end
abbrev pub blanks_due : ℕ → List Token
blanks_due n = items_tokens (items_outline (items_of (replicate n (object no_members))))

pub one_blank : (before after whole : List Token) (left : ℕ) → after ≡ before ++ (begin_object ∷ end_object ∷ []) → before ++ blanks_due (suc left) ≡ whole → after ++ blanks_due left ≡ whole
one_blank before after whole left e h = rw e (append_assoc before (begin_object ∷ end_object ∷ []) (blanks_due left) ∙ h)
