use Rattle.guild_hub.proofs.Growing.{fits_later}
use Rattle.guild_hub.proofs.laws.seen_stays_a_part.Goals as goal

pub returns : goal.returns
returns c = fits_later
