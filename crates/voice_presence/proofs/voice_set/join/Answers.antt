use Rattle.std.proofs.Common.{◌≡◌, true}
use Rattle.voice_presence.proofs.Kept.{voice_came}
use Rattle.voice_presence.proofs.voice_set.join.Goals as goal

pub invariant_of-guild : goal.invariant_of-guild
invariant_of-guild c = rw c.in_err-put.ensures.err c.guild.invariant

pub invariant_of-guild-2 : goal.invariant_of-guild-2
invariant_of-guild-2 c =
    let is_open : c.guild.inside.opened ≡ true = cc in
    let accepted = rw (← c.guild.view_is) at c.requires.accepted in
    rw c.in_ok-put.ensures.ok (voice_came _ is_open c.guild.invariant c.args.edit.now c.args.channel c.requires.there accepted)
