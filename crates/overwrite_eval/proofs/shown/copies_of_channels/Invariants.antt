use Rattle.std.proofs.Common.{◌≡◌, take}
use Rattle.std.specs.Prelude.{filter}
use Rattle.guild_model.specs.declared.channel.Channel.{Channel}
use Rattle.guild_model.specs.Shown.{is_shown}
use Rattle.overwrite_eval.proofs.shown.copies_of_channels.Given as goal

abbrev pub invariant-loop-channel : goal.invariant-loop-channel
invariant-loop-channel l = l.copies.items ≡ filter (λ (c : Channel). is_shown l.private l.standing c.id) (take l.channel-index l.channels)
