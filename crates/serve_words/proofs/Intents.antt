-- Which numbers are sets of intents.
use Rattle.std.proofs.Common.{ℕ, ◌↔◌, IsTrue, eqb-true, eq-eqb}
use Rattle.intent_set.specs.Intents.{HasIntentsAlone}
use Rattle.intent_set.proofs.IntentSets.{intents_alone}
use Rattle.serve_words.specs.Words.{are_intents}

pub are_intents_alone : (n : ℕ) → IsTrue (are_intents n) ↔ HasIntentsAlone n
unfolding are_intents
are_intents_alone n = (
  (λ are. (intents_alone n).0 (eqb-true _ _ are)),
  (λ alone. eq-eqb _ _ ((intents_alone n).1 alone)),
)
