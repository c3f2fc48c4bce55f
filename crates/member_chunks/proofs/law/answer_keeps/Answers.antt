use Rattle.member_chunks.proofs.Keeps.{answer_keeps}
use Rattle.member_chunks.proofs.law.answer_keeps.Goals as goal

pub returns : goal.returns
returns c = answer_keeps
