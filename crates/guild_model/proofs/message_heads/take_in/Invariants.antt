use Rattle.std.proofs.Common.{◌≡◌, length}
use Rattle.guild_model.specs.Heads.{without_channel, arrivals, AreIndexed, IsKept}
use Rattle.guild_model.proofs.message_heads.take_in.Given as goal

-- what went so far stood in the channel
abbrev pub invariant-loop-id : goal.invariant-loop-id
invariant-loop-id l = IsKept l.heads × AreIndexed l.index l.heads.entries × (without_channel l.channel (arrivals l.heads.entries) ≡ without_channel l.channel (arrivals l.fn.heads.entries))

abbrev pub decreases-loop-id : goal.decreases-loop-id
decreases-loop-id l = length l.heads.entries
