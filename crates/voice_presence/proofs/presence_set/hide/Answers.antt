use Rattle.voice_presence.proofs.Kept.{presence_gone}
use Rattle.voice_presence.proofs.presence_set.hide.Goals as goal

pub invariant_of-guild : goal.invariant_of-guild
invariant_of-guild c =
    let is_open = rw (← c.guild.view_is) at c.requires in
    rw c.remove.ensures (presence_gone _ is_open c.guild.invariant _)
