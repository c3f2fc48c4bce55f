use Rattle.std.proofs.Common.{rules}
use Rattle.thread_outside.proofs.FlagMoves.{opens, splits}
use Rattle.thread_outside.proofs.flag.open.Goals as goal

pub of_words-requires : goal.of_words-requires
of_words-requires c = opens

pub split_seat-finds-requires : goal.split_seat-finds-requires
split_seat-finds-requires c = (search rules, search rules, splits _ _ (search rules) (search rules))
