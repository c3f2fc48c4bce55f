use Rattle.member_chunks.proofs.Keeps.{each_chunk_keeps}
use Rattle.member_chunks.proofs.law.each_chunk_keeps.Goals as goal

pub returns : goal.returns
returns c = each_chunk_keeps
