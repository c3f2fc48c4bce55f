-- Sets of intents by their bits.
use Rattle.std.proofs.Common.{◌≡◌, ℕ, ◌^◌, List, [], ◌∷◌, ◌↔◌, arith, refl, sym, ◌∙◌, inl, inr, eqb-true, eq-eqb}
use Rattle.std.specs.Prelude.{◌==◌}
use Rattle.std.specs.Int.RustNames.{bit_and, bit_or}
use Rattle.std.proofs.lemmas.Bool.{cases_eq}
use Rattle.std.proofs.lemmas.Bool.Decides.{nat_tests}
use Rattle.std.proofs.lemmas.Nat.{and_comm, and_assoc}
use Rattle.perm_bits.specs.Bits.{has_bit}
use Rattle.perm_bits.proofs.BitSets.{has_bit-none, has_bit-or, has_bit-same, has_bit-other, contained}
use Rattle.intent_set.specs.Intents.{intent_bits, privileged_bits, is_among, HasIntentsAlone}

has_bit-pow : (k b : ℕ) → has_bit (2 ^ k) b ≡ (b == k)
has_bit-pow k b = elim (cases_eq b k) [
  | inl same ↦ rw same (has_bit-same k ∙ sym (eq-eqb k k refl))
  | inr differ ↦ has_bit-other k b differ ∙ sym (grind (arith, nat_tests, differ))
]

-- the number of a set that is given by its bits
abbrev number_of : List ℕ → ℕ
number_of [] = 0
number_of (k ∷ ks) = bit_or (2 ^ k) (number_of ks)

has_bit-number_of : (ks : List ℕ) (b : ℕ) → has_bit (number_of ks) b ≡ is_among ks b
has_bit-number_of [] b = has_bit-none b
has_bit-number_of (k ∷ ks) b = rw (has_bit-or (2 ^ k) (number_of ks) b, has_bit-pow k b, has_bit-number_of ks b) refl

pub has_bit-all : (b : ℕ) → has_bit 53608447 b ≡ is_among intent_bits b
has_bit-all b = has_bit-number_of intent_bits b

pub has_bit-privileged : (b : ℕ) → has_bit 33026 b ≡ is_among privileged_bits b
has_bit-privileged b = has_bit-number_of privileged_bits b

-- a number is one of intents exactly where it loses no bit by `&` with that of all of them
pub intents_alone : (n : ℕ) → (bit_and n 53608447 ≡ n) ↔ HasIntentsAlone n
unfolding HasIntentsAlone
intents_alone n =
    let all = contained 53608447 n in (
      (λ same b h. rw (← has_bit-all b) (all.0 (eq-eqb _ _ (and_comm 53608447 n ∙ same)) b h)),
      (λ alone. and_comm n 53608447 ∙ eqb-true _ _ (all.1 (λ b h. rw has_bit-all (alone b h)))),
    )

pub intents_alone-and : (n m : ℕ) → bit_and n 53608447 ≡ n → bit_and (bit_and n m) 53608447 ≡ bit_and n m
intents_alone-and n m alone =
    rw (and_assoc 53608447 n m, and_comm m 53608447, ← and_assoc m n 53608447, alone) refl
