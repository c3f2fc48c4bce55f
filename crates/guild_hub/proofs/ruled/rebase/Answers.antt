use Rattle.guild_hub.proofs.Turning.{turns, stays}
use Rattle.guild_hub.proofs.ruled.rebase.Goals as goal

pub enter_as-requires : goal.enter_as-requires
enter_as-requires c x = turns _ _ x x (stays x)
