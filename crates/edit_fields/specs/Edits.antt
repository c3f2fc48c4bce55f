-- Edits by their names.
use Rattle.std.specs.Prelude.{ℕ, List, Result, Ok}
use Rattle.serde_json.specs.Data.{Data}
use Rattle.json_view.specs.Fields.{and_then}
use Rattle.edit_apply.specs.declared.Edit.{Edit}
use Rattle.edit_apply.specs.declared.Edit.TheVariants.{Guild, RoleMember, Channel, Thread, VoicePresence, Message}
use Rattle.edit_fields.specs.declared.fault.LineFault.{LineFault}
use Rattle.edit_fields.specs.declared.names.EditName.{EditName}
use Rattle.edit_fields.specs.declared.names.EditName.TheVariants as name
use Rattle.edit_fields.specs.GuildEdits.{guild_edit_from, guild_edit_name, guild_edit_fields}
use Rattle.edit_fields.specs.RoleMemberEdits.{role_member_edit_from, role_member_edit_name, role_member_edit_fields}
use Rattle.edit_fields.specs.ChannelEdits.{channel_edit_from, channel_edit_name, channel_edit_fields}
use Rattle.edit_fields.specs.ThreadEdits.{thread_edit_from, thread_edit_name, thread_edit_fields}
use Rattle.edit_fields.specs.VoicePresenceEdits.{voice_presence_edit_from, voice_presence_edit_name, voice_presence_edit_fields}
use Rattle.edit_fields.specs.MessageEdits.{message_edit_from, message_edit_name, message_edit_fields}

-- the edit of this name, from the fields of an object
abbrev pub edit_from : EditName → Data → Result Edit LineFault
edit_from (name.Guild n) d = and_then (guild_edit_from n d) (λ edit. Ok (Guild edit))
edit_from (name.RoleMember n) d = and_then (role_member_edit_from n d) (λ edit. Ok (RoleMember edit))
edit_from (name.Channel n) d = and_then (channel_edit_from n d) (λ edit. Ok (Channel edit))
edit_from (name.Thread n) d = and_then (thread_edit_from n d) (λ edit. Ok (Thread edit))
edit_from (name.VoicePresence n) d =
    and_then (voice_presence_edit_from n d) (λ edit. Ok (VoicePresence edit))
edit_from (name.Message n) d = and_then (message_edit_from n d) (λ edit. Ok (Message edit))

abbrev pub edit_name : Edit → EditName
edit_name (Guild edit) = name.Guild (guild_edit_name edit)
edit_name (RoleMember edit) = name.RoleMember (role_member_edit_name edit)
edit_name (Channel edit) = name.Channel (channel_edit_name edit)
edit_name (Thread edit) = name.Thread (thread_edit_name edit)
edit_name (VoicePresence edit) = name.VoicePresence (voice_presence_edit_name edit)
edit_name (Message edit) = name.Message (message_edit_name edit)

-- the fields that an edit is written with, in the order in which they are read
abbrev pub edit_fields : Edit → List (List ℕ × Data)
edit_fields (Guild edit) = guild_edit_fields edit
edit_fields (RoleMember edit) = role_member_edit_fields edit
edit_fields (Channel edit) = channel_edit_fields edit
edit_fields (Thread edit) = thread_edit_fields edit
edit_fields (VoicePresence edit) = voice_presence_edit_fields edit
edit_fields (Message edit) = message_edit_fields edit
