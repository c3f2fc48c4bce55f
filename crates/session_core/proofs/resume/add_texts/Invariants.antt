use Rattle.std.proofs.Common.{◌≡◌, ◌++◌, map}
use Rattle.session_core.specs.declared.reply.Reply.TheVariants.{Text as Texts}
use Rattle.session_core.proofs.resume.add_texts.Given as goal

abbrev pub invariant-loop-text : goal.invariant-loop-text
invariant-loop-text l = l.replies.items ++ map (λ text. Texts l.conn text) l.text-iterator ≡ l.fn.replies.items ++ map (λ text. Texts l.conn text) l.fn.texts
