use Rattle.guild_model.proofs.ChannelIndex.{leaves}
use Rattle.guild_model.proofs.channel_index.ChannelIndex.remove.Goals as goal

pub returns : goal.returns
returns c = rw (← c.self.view_is) (leaves c.self.inside.pairs c.remove.new.self c.args.channel c.args.id c.remove.ensures.updates.0)
