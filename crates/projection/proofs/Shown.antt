-- The channels and voice states of a guild that withholds no channels are all shown.
use Rattle.std.proofs.Common.{◌≡◌, false, refl, ap, ◌∙◌}
use Rattle.collections.proofs.Mapped.{filter-all}
use Rattle.guild_model.specs.declared.member.Member.{Member}
use Rattle.guild_model.specs.Record.{Record}
use Rattle.guild_model.specs.Shown.{channel_shown, voice_shown, shown_channels, shown_voices}

module _ (s : Record) (me : Member) (shows : s.private ≡ false) where
  pub channels_shown : shown_channels s.private s me ≡ s.channels
  channels_shown = ap (λ b. shown_channels b s me) shows ∙ filter-all (channel_shown false s me) (λ c. refl) s.channels

  pub voices_shown : shown_voices s.private s me ≡ s.voices
  voices_shown = ap (λ b. shown_voices b s me) shows ∙ filter-all (voice_shown false s me) (λ z. refl) s.voices
