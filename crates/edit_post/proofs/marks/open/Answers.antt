use Rattle.edit_post.proofs.MarkMoves.{opens}
use Rattle.edit_post.proofs.marks.open.Goals as goal

pub of_words-requires : goal.of_words-requires
of_words-requires c = opens
