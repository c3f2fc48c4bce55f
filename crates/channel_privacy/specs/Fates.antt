-- internal: what is made of a dispatch that is told, told in part, or not told
use Rattle.std.specs.Prelude.{List, [], ◌∷◌}
use Rattle.dispatch_types.specs.declared.dispatch.Dispatch.{Dispatch}
use Rattle.dispatch_types.specs.declared.dispatch.Dispatch.TheVariants.{VoiceStateUpdate}
use Rattle.channel_privacy.specs.declared.told.Fate.{Fate}
use Rattle.channel_privacy.specs.declared.told.Fate.TheVariants.{Told, Left, Withheld}
use Rattle.channel_privacy.specs.Withheld.{left_voice}

abbrev pub told_as : Fate → Dispatch → List Dispatch
told_as Told d = d ∷ []
told_as Left (VoiceStateUpdate u) = left_voice u ∷ []
told_as Left d = []
told_as Withheld d = []
