use Rattle.edit_text.proofs.IntentBits.{are_if}
use Rattle.edit_text.proofs.intents.put_intents.Goals as goal

pub returns-clause-fits : goal.returns-clause-fits
returns-clause-fits c = rw (← c.bits.ensures.value) (are_if c.bits.result c.bits.ensures.within)
