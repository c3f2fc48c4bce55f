use Rattle.file_lift.proofs.Counting.{blank_reads}
use Rattle.file_lift.proofs.writing.text_of.Goals as goal

pub returns-in-None-clause-reads : goal.returns-in-None-clause-reads
returns-in-None-clause-reads c reader bytes is short = rw (c.new.ensures.bytes, c.in-None.is) (blank_reads reader bytes (rw c.in-None.is at is))
