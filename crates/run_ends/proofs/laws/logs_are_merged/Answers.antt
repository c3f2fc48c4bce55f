use Rattle.run_ends.proofs.Merging.{logs_of_actor}
use Rattle.run_ends.proofs.laws.logs_are_merged.Goals as goal

pub returns : goal.returns
returns c posts guilds senders passes takers taker actor writers have whole is lt all merge of = logs_of_actor posts guilds takers taker actor is lt senders passes have whole all merge writers of
