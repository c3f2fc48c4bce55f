use Rattle.member_chunks.proofs.Pieces.{chunks_are_all}
use Rattle.member_chunks.proofs.law.chunks_are_all.Goals as goal

pub returns : goal.returns
returns c = chunks_are_all
