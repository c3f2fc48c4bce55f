use Rattle.std.proofs.Common.{◌≡◌, true}
use Rattle.voice_presence.proofs.Kept.{presence_came}
use Rattle.voice_presence.proofs.presence_set.show.Goals as goal

pub invariant_of-guild : goal.invariant_of-guild
invariant_of-guild c = rw c.in_err-put.ensures.err c.guild.invariant

pub invariant_of-guild-2 : goal.invariant_of-guild-2
invariant_of-guild-2 c =
    let is_open : c.guild.inside.opened ≡ true = cc in
    let accepted = rw (← c.guild.view_is) at c.requires.member in
    rw c.in_ok-put.ensures.ok (presence_came _ is_open c.guild.invariant c.args.user c.args.shown accepted)
