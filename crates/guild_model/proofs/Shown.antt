-- A guild that withholds no channels is shown whole.
use Rattle.std.proofs.Common.{◌≡◌, Bool, true, false, List, refl, ap, ◌∙◌}
use Rattle.std.specs.Prelude.{filter}
use Rattle.collections.proofs.Mapped.{filter-all}
use Rattle.guild_model.specs.declared.channel.Channel.{Channel}
use Rattle.guild_model.specs.declared.member.Member.{Member}
use Rattle.guild_model.specs.declared.voice.Voice.{Voice}
use Rattle.guild_model.specs.Record.{Record}
use Rattle.guild_model.specs.Shown.{shown_channels, shown_voices, shown_part}

pub shown-all : (s : Record) (me : Member) → s.private ≡ false → shown_part s me ≡ s
shown-all s me shows =
    ap (λ (p : Bool). record s { channels = shown_channels p s me; voices = shown_voices p s me }) shows
    ∙ (ap (λ (cs : List Channel). record s { channels = cs; voices = filter (λ (z : Voice). true) s.voices }) (filter-all (λ c. true) (λ c. refl) s.channels)
    ∙ ap (λ (zs : List Voice). record s { voices = zs }) (filter-all (λ z. true) (λ z. refl) s.voices))
