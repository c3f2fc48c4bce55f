use Rattle.replay_ring.proofs.Suffixes.{texts_after-replay_of}
use Rattle.replay_ring.proofs.laws.after_gives_all_later_texts.Goals as goal

pub returns : goal.returns
returns c = texts_after-replay_of
