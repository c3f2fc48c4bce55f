use Rattle.load_settle.specs.Readers.{ReachesEnd}
use Rattle.load_settle.proofs.Turns.{Done}
use Rattle.load_settle.proofs.reading.read_to_the_ends.Given as goal

abbrev pub invariant-loop-reader : goal.invariant-loop-reader
invariant-loop-reader g l = Done (ReachesEnd l.logs) l.reader-index l.fn.readers l.readers
