use Rattle.member_chunks.proofs.Pieces.{answers_speak}
use Rattle.member_chunks.proofs.law.answers_speak.Goals as goal

pub returns : goal.returns
returns c = answers_speak
