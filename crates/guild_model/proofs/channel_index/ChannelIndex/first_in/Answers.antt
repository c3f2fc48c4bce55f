use Rattle.guild_model.proofs.ChannelIndex.{first_there, others_only, none_at_all}
use Rattle.guild_model.proofs.channel_index.ChannelIndex.first_in.Goals as goal

pub returns-in_default-clause-bare : goal.returns-in_default-clause-bare
returns-in_default-clause-bare c = rw (← c.self.view_is) (none_at_all c.self.inside.pairs c.args.channel c.range.result (c.range.ensures.in_range tt) c.in_default.ensures.steps.0)

pub returns-then-found-channel-clause-there : goal.returns-then-found-channel-clause-there
returns-then-found-channel-clause-there c =
    rw (← c.self.view_is, ← c.if-found-channel.true) (first_there c.self.inside.pairs c.args.channel c.in-Some.field-0.now c.range.result c.next.new.self (c.range.ensures.in_range tt) c.in-Some.ensures.steps)

pub returns-else-found-channel-clause-bare : goal.returns-else-found-channel-clause-bare
returns-else-found-channel-clause-bare c =
    rw (← c.self.view_is) (others_only c.self.inside.pairs c.args.channel c.in-Some.field-0.now c.range.result c.next.new.self (c.range.ensures.in_range tt) c.in-Some.ensures.steps c.if-found-channel.false)
