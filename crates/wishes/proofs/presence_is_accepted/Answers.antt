use Rattle.wishes.proofs.Accepts.{presence_is_accepted}
use Rattle.wishes.proofs.presence_is_accepted.Goals as goal

pub returns : goal.returns
returns c = presence_is_accepted
