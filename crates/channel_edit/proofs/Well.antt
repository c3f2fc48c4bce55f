-- An edit of channels leaves a record well.
use Rattle.std.proofs.Common.{◌≡◌, true, None}
use Rattle.guild_model.specs.Record.{Record}
use Rattle.guild_model.specs.Ascending.{IsWell}
use Rattle.channel_edit.specs.declared.ChannelEdit.{ChannelEdit}
use Rattle.channel_edit.specs.declared.ChannelEdit.TheVariants.{ChannelCreate, ChannelUpdate, ChannelDelete, OverwriteSet, OverwriteDelete}
use Rattle.channel_edit.specs.ChannelEdits.{channel_verdict, channel_applied}
use Rattle.channel_edit.proofs.Kept.{channel_came, updated, channel_gone, overwrite_set, overwrite_gone}
use Rattle.channel_edit.proofs.Ascends

pub well : (g : Record) (edit : ChannelEdit) → g.opened ≡ true → IsWell g → channel_verdict g edit ≡ None → IsWell (channel_applied g edit)
well g (ChannelCreate edit) o w e = record { ascending = Ascends.channel_came g w.ascending edit; consistent = channel_came g o w.consistent edit e }
well g (ChannelUpdate edit) o w e = record { ascending = Ascends.updated g w.ascending edit; consistent = updated g o w.consistent edit }
well g (ChannelDelete channel) o w e =
    record { ascending = Ascends.channel_gone g w.ascending channel; consistent = channel_gone g o w.consistent w.ascending.threads w.ascending.voices channel }
well g (OverwriteSet edit) o w e = record { ascending = Ascends.overwrite_set g w.ascending edit; consistent = overwrite_set g o w.consistent edit e }
well g (OverwriteDelete edit) o w e = record { ascending = Ascends.overwrite_gone g w.ascending edit; consistent = overwrite_gone g o w.consistent edit }
