use Rattle.std.proofs.Common.{sym, refl, true≢false}
use Rattle.edit_text.proofs.IntentBits.{within_if, refused_if}
use Rattle.edit_text.proofs.intents.intents_from.Goals as goal

pub returns-in-Err : goal.returns-in-Err
returns-in-Err c = sym (refused_if c.args.bits (λ h. true≢false (sym (c.in-Err.ensures.accepted.1 h))))

pub returns-in-Ok : goal.returns-in-Ok
returns-in-Ok c = rw c.in-Ok.ensures.value (sym (within_if c.args.bits (c.in-Ok.ensures.accepted.0 refl)))
