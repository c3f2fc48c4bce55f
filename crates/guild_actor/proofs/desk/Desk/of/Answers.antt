use Rattle.guild_actor.proofs.Delivery.{begun}
use Rattle.guild_actor.proofs.desk.Desk.of.Goals as goal

pub returns : goal.returns
returns g c = begun c.args.writers.items c.requires.1
