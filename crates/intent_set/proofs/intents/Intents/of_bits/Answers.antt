use Rattle.std.proofs.Common.{refl}
use Rattle.bitflags.proofs.OnLiterals.{bitflags_on_literals}
use Rattle.intent_set.proofs.IntentSets.{intents_alone}
use Rattle.intent_set.proofs.intents.Intents.of_bits.Goals as goal

pub invariant_of-result : goal.invariant_of-result
unfolding bitflags_on_literals
invariant_of-result c = rw (c.in-Some.ensures.value tt) ((c.in-Some.ensures.known tt).0 refl)

pub returns-in-Some-clause-accepted : goal.returns-in-Some-clause-accepted
unfolding bitflags_on_literals
returns-in-Some-clause-accepted c =
    ((λ _. (intents_alone c.args.bits).0 ((c.in-Some.ensures.known tt).0 refl)), (λ _. refl))

pub returns-in-None-clause-accepted : goal.returns-in-None-clause-accepted
unfolding bitflags_on_literals
returns-in-None-clause-accepted c = (
  (λ none. (intents_alone c.args.bits).0 ((c.in-None.ensures.known tt).0 none)),
  (λ alone. (c.in-None.ensures.known tt).1 ((intents_alone c.args.bits).1 alone)),
)
