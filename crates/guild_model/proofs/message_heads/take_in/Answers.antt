use Rattle.std.proofs.Common.{sym, ◌∙◌}
use Rattle.guild_model.proofs.Indexed.{next_gone, channel_gone}
use Rattle.guild_model.proofs.message_heads.take_in.Goals as goal

pub loop-id-smaller : goal.loop-id-smaller
loop-id-smaller c = rw c.take.ensures.entries (next_gone c.args.channel c.in-Some.id c.loop-id.heads.entries c.loop-id.index c.loop-id.invariant.1 c.in-Some.ensures.there).0

pub loop-id-preserved : goal.loop-id-preserved
loop-id-preserved c =
    let next = next_gone c.args.channel c.in-Some.id c.loop-id.heads.entries c.loop-id.index c.loop-id.invariant.1 c.in-Some.ensures.there in
    (c.take.ensures.kept, c.take.ensures.indexed, rw c.take.ensures.entries (next.1 ∙ c.loop-id.invariant.2))

pub returns-clause-heads : goal.returns-clause-heads
returns-clause-heads c =
    sym (channel_gone c.args.channel c.loop-id.heads.entries c.loop-id.index c.loop-id.invariant.0.index c.loop-id.invariant.1 c.in_default.ensures.bare) ∙ c.loop-id.invariant.2
