-- What a mask has of a set of permissions, which has no bit from 53 on.
use Rattle.std.proofs.Common.{◌≡◌, ℕ, ◌<◌, ◌^◌, Bool, IsTrue, ◌↔◌, sym, ◌∙◌, inl, inr}
use Rattle.std.proofs.lemmas.Bool.{cases_lt, false≢true}
use Rattle.perm_bits.specs.Bits.{has_bit}
use Rattle.perm_bits.proofs.BitSets.{has_bit-above, has_bit-same}

bit_below : (set b : ℕ) → set < 2 ^ 53 → IsTrue (has_bit set b) → b < 53
bit_below set b fits has = elim (cases_lt b 53) [
  | inl below ↦ below
  | inr above ↦ absurd (false≢true (sym (has_bit-above set b fits above) ∙ has))
]

pub one_below : (set b : ℕ) → set < 2 ^ 53 → set ≡ 2 ^ b → b < 53
one_below set b fits is = bit_below set b fits (rw is (has_bit-same b))

pub every_granted : (granted : ℕ → Bool) (mask set : ℕ) (answer : Bool) → set < 2 ^ 53 → ((b : ℕ) → b < 53 → has_bit mask b ≡ granted b)
    → (IsTrue answer ↔ ((b : ℕ) → IsTrue (has_bit set b) → IsTrue (has_bit mask b)))
    → (IsTrue answer ↔ ((b : ℕ) → IsTrue (has_bit set b) → IsTrue (granted b)))
every_granted granted mask set answer fits is every = (
  (λ yes b asked. sym (is b (bit_below set b fits asked)) ∙ every.0 yes b asked),
  (λ all. every.1 (λ b asked. is b (bit_below set b fits asked) ∙ all b asked)),
)
