use Rattle.member_chunks.proofs.Keeps.{each_chunk_stays}
use Rattle.member_chunks.proofs.law.each_chunk_stays.Goals as goal

pub returns : goal.returns
returns c = each_chunk_stays
