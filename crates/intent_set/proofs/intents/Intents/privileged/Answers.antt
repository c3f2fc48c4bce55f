use Rattle.std.proofs.Common.{refl}
use Rattle.intent_set.proofs.IntentSets.{intents_alone-and, has_bit-privileged}
use Rattle.perm_bits.proofs.BitSets.{has_bit-and}
use Rattle.intent_set.proofs.intents.Intents.privileged.Goals as goal

pub invariant_of-result : goal.invariant_of-result
invariant_of-result c = intents_alone-and c.self.inside.0.0 33026 c.self.invariant

pub returns : goal.returns
returns c =
    λ b. rw (← c.self.view_is, has_bit-and c.self.inside.0.0 33026 b, has_bit-privileged b) refl
