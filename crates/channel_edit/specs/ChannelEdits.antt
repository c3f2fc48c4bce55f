-- The edits of channels and their overwrites: what is refused, and what becomes of the record.
use Rattle.std.specs.Prelude.{Option}
use Rattle.guild_model.specs.declared.verdict.Verdict.{Verdict}
use Rattle.guild_model.specs.Record.{Record}
use Rattle.channel_edit.specs.declared.ChannelEdit.{ChannelEdit}
use Rattle.channel_edit.specs.declared.ChannelEdit.TheVariants.{ChannelCreate, ChannelUpdate, ChannelDelete, OverwriteSet, OverwriteDelete}
use Rattle.channel_edit.specs.Channels.{channel_create_verdict, channel_created, channel_update_verdict, channel_updated}
use Rattle.channel_edit.specs.ChannelEnd.{channel_delete_verdict, channel_deleted}
use Rattle.channel_edit.specs.OverwriteEdits.{overwrite_set_verdict, overwrite_was_set, overwrite_delete_verdict, overwrite_deleted}

-- why an edit of an open guild is refused, if it is
abbrev pub channel_verdict : Record → ChannelEdit → Option Verdict
channel_verdict g (ChannelCreate edit) = channel_create_verdict g edit
channel_verdict g (ChannelUpdate edit) = channel_update_verdict g edit
channel_verdict g (ChannelDelete channel) = channel_delete_verdict g channel
channel_verdict g (OverwriteSet edit) = overwrite_set_verdict g edit
channel_verdict g (OverwriteDelete edit) = overwrite_delete_verdict g edit

-- the record after an edit that is not refused
abbrev pub channel_applied : Record → ChannelEdit → Record
channel_applied g (ChannelCreate edit) = channel_created g edit
channel_applied g (ChannelUpdate edit) = channel_updated g edit
channel_applied g (ChannelDelete channel) = channel_deleted g channel
channel_applied g (OverwriteSet edit) = overwrite_was_set g edit
channel_applied g (OverwriteDelete edit) = overwrite_deleted g edit
