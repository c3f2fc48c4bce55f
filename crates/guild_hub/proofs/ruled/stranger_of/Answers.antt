use Rattle.guild_hub.proofs.Turning.{admits}
use Rattle.guild_hub.proofs.ruled.stranger_of.Goals as goal

pub reader-requires : goal.reader-requires
reader-requires c = admits
