use Rattle.std.proofs.Common.{◌≡◌, ◌++◌, take}
use Rattle.std.specs.Prelude.{flat_map, filter}
use Rattle.guild_model.specs.Record.{speaks_in}
use Rattle.channel_privacy.specs.Withheld.{voice_there}
use Rattle.channel_privacy.proofs.losses.add_voices.Given as goal

abbrev pub invariant-loop-voice : goal.invariant-loop-voice
invariant-loop-voice l = l.list.items ≡ l.fn.list.items ++ flat_map (voice_there l.to.after l.to.viewer) (filter (speaks_in l.channel) (take l.voice-index l.voices))
