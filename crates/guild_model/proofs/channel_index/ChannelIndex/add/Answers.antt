use Rattle.guild_model.proofs.ChannelIndex.{joins}
use Rattle.guild_model.proofs.channel_index.ChannelIndex.add.Goals as goal

pub returns-clause-ok : goal.returns-clause-ok
returns-clause-ok c = rw (← c.self.view_is) (joins c.self.inside.pairs c.insert.new.self c.args.channel c.args.id c.in_ok-insert.ensures.updates.0)
