-- Lists that are told and grow, and counts that rise.
use Rattle.std.proofs.Common.{ℕ, zero, suc, ◌+◌, ◌<◌, List, [], ◌∷◌, ◌++◌, refl, sym, ap, subst, ◌∙◌, append_assoc, append-nil, arith}
use Rattle.std.specs.declared.option.Option.{Option}
use Rattle.std.specs.declared.option.Option.TheVariants.{Some, None}
use Rattle.gate_outside.specs.Causes.{Rose}
use Rattle.gate_outside.specs.Houses.{HouseTale, KeepsParts, CountsFaults}
use Rattle.gate_outside.specs.Told.{GrowsBy}
use Rattle.house_loans.specs.Loans.{GrowsByAll}

module _ {A : Type 0} where
  pub grows_none : (old : Option (List A)) → GrowsByAll old old []
  grows_none None = refl
  grows_none (Some xs) = sym (append-nil xs)

  pub grows_one : (a b c : Option (List A)) (more : List A) (x : A) → GrowsByAll a b more → GrowsBy b c x → GrowsByAll a c (more ++ x ∷ [])
  grows_one None None c more x all one = one
  grows_one None (Some ys) c more x all one = absurd cc
  grows_one (Some xs) None c more x all one = absurd all
  grows_one (Some xs) (Some ys) None more x all one = absurd one
  grows_one (Some xs) (Some ys) (Some zs) more x all one = one ∙ ap (λ l. l ++ x ∷ []) all ∙ append_assoc xs more (x ∷ [])

-- what stays as it was stays so
pub keeps_none : (a : HouseTale) → KeepsParts a a
keeps_none a = record { contents = refl; sources = refl; doors = refl; clocks = refl }

pub keeps_on : (a b c : HouseTale) → KeepsParts a b → KeepsParts b c → KeepsParts a c
keeps_on a b c before after = record {
  contents = after.contents ∙ before.contents;
  sources = after.sources ∙ before.sources;
  doors = after.doors ∙ before.doors;
  clocks = after.clocks ∙ before.clocks;
}

-- ---- a count of what is put back

pub counts_none : (a : ℕ) → CountsFaults a a 0
counts_none a = record { later = omega arith; sound = λ none. refl; faulty = λ some. absurd (omega (arith, some)) }

rose_on : (a b c m n : ℕ) → CountsFaults a b m → CountsFaults b c n → 0 < m + n → Rose a c
rose_on a b c zero n before one some = subst (λ x. Rose x c) (before.sound refl) (one.faulty (omega (arith, some)))
rose_on a b c (suc m) n before one some = omega (arith, before.faulty (omega arith), one.later)

pub counts_one : (a b c m n : ℕ) → CountsFaults a b m → CountsFaults b c n → CountsFaults a c (m + n)
counts_one a b c m n before one = record {
  later = omega (arith, before.later, one.later);
  sound = λ none. one.sound (omega (arith, none)) ∙ before.sound (omega (arith, none));
  faulty = rose_on a b c m n before one;
}
