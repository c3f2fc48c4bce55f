use Rattle.stop_flag.proofs.FlagMoves.{opens}
use Rattle.stop_flag.proofs.flags.open.Goals as goal

pub of_words-requires : goal.of_words-requires
of_words-requires c = opens
