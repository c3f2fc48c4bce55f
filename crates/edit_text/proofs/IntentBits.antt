-- The test that tells sets of intents.
use Rattle.std.proofs.Common.{◌≡◌, ℕ, Bool, true, false, Ok, Err, refl, eq-eqb, eqb-true}
use Rattle.std.specs.Int.RustNames.{bit_and}
use Rattle.intent_set.specs.Intents.{HasIntentsAlone}
use Rattle.intent_set.proofs.IntentSets.{intents_alone}
use Rattle.edit_fields.specs.declared.fault.LineFault.TheVariants.{WrongType}
use Rattle.edit_fields.specs.Fields.{within}
use Rattle.edit_text.specs.Intents.{are_intents}

pub are_if : (n : ℕ) → HasIntentsAlone n → are_intents n ≡ true
unfolding are_intents
are_if n h = eq-eqb (bit_and n 53608447) n ((intents_alone n).1 h)

alone_if : (n : ℕ) → are_intents n ≡ true → HasIntentsAlone n
unfolding are_intents
alone_if n h = (intents_alone n).0 (eqb-true (bit_and n 53608447) n h)

pub within_if : (n : ℕ) → HasIntentsAlone n → within (are_intents n) n ≡ Ok n
within_if n h = rw (are_if n h) refl

refused_at : (n : ℕ) (b : Bool) → are_intents n ≡ b → (HasIntentsAlone n → ⊥) → within b n ≡ Err WrongType
refused_at n true e h = absurd (h (alone_if n e))
refused_at n false e h = refl

pub refused_if : (n : ℕ) → (HasIntentsAlone n → ⊥) → within (are_intents n) n ≡ Err WrongType
refused_if n h = refused_at n (are_intents n) refl h
