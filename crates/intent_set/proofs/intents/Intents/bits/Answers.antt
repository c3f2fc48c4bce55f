use Rattle.intent_set.proofs.IntentSets.{intents_alone}
use Rattle.intent_set.proofs.intents.Intents.bits.Goals as goal

pub returns-clause-within : goal.returns-clause-within
returns-clause-within c = (intents_alone c.self.inside.0.0).0 c.self.invariant
