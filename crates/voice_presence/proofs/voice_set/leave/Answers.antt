use Rattle.voice_presence.proofs.Kept.{voice_gone}
use Rattle.voice_presence.proofs.voice_set.leave.Goals as goal

pub invariant_of-guild : goal.invariant_of-guild
invariant_of-guild c =
    let is_open = rw (← c.guild.view_is) at c.requires in
    rw c.remove.ensures (voice_gone _ is_open c.guild.invariant _)
