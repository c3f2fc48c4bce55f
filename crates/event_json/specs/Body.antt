-- The field `d` of a dispatch (Gateway Events, Receive Events).
use Rattle.std.specs.Prelude.{None, false, Result, Ok}
use Rattle.serde_json.specs.Data.{Data, object, no_members}
use Rattle.intent_set.specs.declared.kind.Kind.{Kind}
use Rattle.intent_set.specs.declared.kind.Kind.TheVariants as kind
use Rattle.dispatch_types.specs.declared.dispatch.Dispatch.{Dispatch}
use Rattle.dispatch_types.specs.declared.dispatch.Dispatch.TheVariants.{Ready, Resumed, GuildCreate, GuildUpdate, GuildDelete, GuildRoleCreate, GuildRoleUpdate, GuildRoleDelete, ChannelCreate, ChannelUpdate, ChannelDelete, ThreadCreate, ThreadUpdate, ThreadDelete, ThreadListSync, ThreadMembersUpdate, GuildMemberAdd, GuildMemberUpdate, GuildMemberRemove, GuildMembersChunk, VoiceStateUpdate, PresenceUpdate, MessageCreate, MessageUpdate, MessageDelete, MessageReactionAdd, MessageReactionRemove, TypingStart}
use Rattle.json_view.specs.Fields.{and_then}
use Rattle.object_json.specs.declared.fault.ReadFault.{ReadFault}
use Rattle.object_json.specs.Channel.{channel_data, channel_from, ChannelFits}
use Rattle.object_json.specs.Thread.{thread_data, thread_from, ThreadFits}
use Rattle.object_json.specs.Presence.{presence_data, presence_from, PresenceFits}
use Rattle.object_json.specs.Message.{message_data, message_from, MessageFits}
use Rattle.event_json.specs.Ready.{ready_data, ready_from, ReadyFits}
use Rattle.event_json.specs.Guild.{guild_create_data, guild_create_from, GuildCreateFits, guild_update_data, guild_update_from, GuildUpdateFits, guild_delete_data, guild_delete_from, GuildDeleteFits, guild_role_data, guild_role_from, GuildRoleFits, guild_role_delete_data, guild_role_delete_from, GuildRoleDeleteFits}
use Rattle.event_json.specs.Thread.{thread_create_data, thread_create_from, ThreadCreateFits, thread_delete_data, thread_delete_from, ThreadDeleteFits, thread_list_sync_data, thread_list_sync_from, ThreadListSyncFits, thread_members_update_data, thread_members_update_from, ThreadMembersUpdateFits}
use Rattle.event_json.specs.Member.{guild_member_data, guild_member_from, GuildMemberFits, guild_member_remove_data, guild_member_remove_from, GuildMemberRemoveFits, members_chunk_data, members_chunk_from, ChunkFits}
use Rattle.event_json.specs.Voice.{voice_state_update_data, voice_state_update_from, VoiceStateUpdateFits}
use Rattle.event_json.specs.Message.{message_delete_data, message_delete_from, MessageDeleteFits, reaction_data, reaction_from, ReactionFits, typing_start_data, typing_start_from, TypingStartFits}

abbrev pub body_data : Dispatch → Data
body_data (Ready ready) = ready_data ready
body_data Resumed = object no_members
body_data (GuildCreate create) = guild_create_data create
body_data (GuildUpdate update) = guild_update_data update
body_data (GuildDelete delete) = guild_delete_data delete
body_data (GuildRoleCreate role) = guild_role_data role
body_data (GuildRoleUpdate role) = guild_role_data role
body_data (GuildRoleDelete delete) = guild_role_delete_data delete
body_data (ChannelCreate channel) = channel_data channel
body_data (ChannelUpdate channel) = channel_data channel
body_data (ChannelDelete channel) = channel_data channel
body_data (ThreadCreate create) = thread_create_data create
body_data (ThreadUpdate thread) = thread_data None false thread
body_data (ThreadDelete delete) = thread_delete_data delete
body_data (ThreadListSync sync) = thread_list_sync_data sync
body_data (ThreadMembersUpdate update) = thread_members_update_data update
body_data (GuildMemberAdd member) = guild_member_data member
body_data (GuildMemberUpdate member) = guild_member_data member
body_data (GuildMemberRemove remove) = guild_member_remove_data remove
body_data (GuildMembersChunk chunk) = members_chunk_data chunk
body_data (VoiceStateUpdate update) = voice_state_update_data update
body_data (PresenceUpdate presence) = presence_data presence
body_data (MessageCreate message) = message_data message
body_data (MessageUpdate message) = message_data message
body_data (MessageDelete delete) = message_delete_data delete
body_data (MessageReactionAdd reaction) = reaction_data reaction
body_data (MessageReactionRemove reaction) = reaction_data reaction
body_data (TypingStart typing) = typing_start_data typing

-- ---- reading

-- what is read, as a dispatch
abbrev pub reads_as : {A : Type 0} → (A → Dispatch) → Result A ReadFault → Result Dispatch ReadFault
reads_as dispatch answer = and_then answer (λ a. Ok (dispatch a))

-- the dispatch of a kind that a field `d` can be
abbrev pub body_from : Kind → Data → Result Dispatch ReadFault
body_from kind.Ready d = reads_as Ready (ready_from d)
body_from kind.Resumed d = Ok Resumed
body_from kind.GuildCreate d = reads_as GuildCreate (guild_create_from d)
body_from kind.GuildUpdate d = reads_as GuildUpdate (guild_update_from d)
body_from kind.GuildDelete d = reads_as GuildDelete (guild_delete_from d)
body_from kind.GuildRoleCreate d = reads_as GuildRoleCreate (guild_role_from d)
body_from kind.GuildRoleUpdate d = reads_as GuildRoleUpdate (guild_role_from d)
body_from kind.GuildRoleDelete d = reads_as GuildRoleDelete (guild_role_delete_from d)
body_from kind.ChannelCreate d = reads_as ChannelCreate (channel_from d)
body_from kind.ChannelUpdate d = reads_as ChannelUpdate (channel_from d)
body_from kind.ChannelDelete d = reads_as ChannelDelete (channel_from d)
body_from kind.ThreadCreate d = reads_as ThreadCreate (thread_create_from d)
body_from kind.ThreadUpdate d = reads_as ThreadUpdate (thread_from d)
body_from kind.ThreadDelete d = reads_as ThreadDelete (thread_delete_from d)
body_from kind.ThreadListSync d = reads_as ThreadListSync (thread_list_sync_from d)
body_from kind.ThreadMembersUpdate d = reads_as ThreadMembersUpdate (thread_members_update_from d)
body_from kind.GuildMemberAdd d = reads_as GuildMemberAdd (guild_member_from d)
body_from kind.GuildMemberUpdate d = reads_as GuildMemberUpdate (guild_member_from d)
body_from kind.GuildMemberRemove d = reads_as GuildMemberRemove (guild_member_remove_from d)
body_from kind.GuildMembersChunk d = reads_as GuildMembersChunk (members_chunk_from d)
body_from kind.VoiceStateUpdate d = reads_as VoiceStateUpdate (voice_state_update_from d)
body_from kind.PresenceUpdate d = reads_as PresenceUpdate (presence_from d)
body_from kind.MessageCreate d = reads_as MessageCreate (message_from d)
body_from kind.MessageUpdate d = reads_as MessageUpdate (message_from d)
body_from kind.MessageDelete d = reads_as MessageDelete (message_delete_from d)
body_from kind.MessageReactionAdd d = reads_as MessageReactionAdd (reaction_from d)
body_from kind.MessageReactionRemove d = reads_as MessageReactionRemove (reaction_from d)
body_from kind.TypingStart d = reads_as TypingStart (typing_start_from d)

-- what the types of its fields hold
abbrev pub DispatchFits : Dispatch → Type 0
DispatchFits (Ready ready) = ReadyFits ready
DispatchFits Resumed = Unit {0}
DispatchFits (GuildCreate create) = GuildCreateFits create
DispatchFits (GuildUpdate update) = GuildUpdateFits update
DispatchFits (GuildDelete delete) = GuildDeleteFits delete
DispatchFits (GuildRoleCreate role) = GuildRoleFits role
DispatchFits (GuildRoleUpdate role) = GuildRoleFits role
DispatchFits (GuildRoleDelete delete) = GuildRoleDeleteFits delete
DispatchFits (ChannelCreate channel) = ChannelFits channel
DispatchFits (ChannelUpdate channel) = ChannelFits channel
DispatchFits (ChannelDelete channel) = ChannelFits channel
DispatchFits (ThreadCreate create) = ThreadCreateFits create
DispatchFits (ThreadUpdate thread) = ThreadFits thread
DispatchFits (ThreadDelete delete) = ThreadDeleteFits delete
DispatchFits (ThreadListSync sync) = ThreadListSyncFits sync
DispatchFits (ThreadMembersUpdate update) = ThreadMembersUpdateFits update
DispatchFits (GuildMemberAdd member) = GuildMemberFits member
DispatchFits (GuildMemberUpdate member) = GuildMemberFits member
DispatchFits (GuildMemberRemove remove) = GuildMemberRemoveFits remove
DispatchFits (GuildMembersChunk chunk) = ChunkFits chunk
DispatchFits (VoiceStateUpdate update) = VoiceStateUpdateFits update
DispatchFits (PresenceUpdate presence) = PresenceFits presence
DispatchFits (MessageCreate message) = MessageFits message
DispatchFits (MessageUpdate message) = MessageFits message
DispatchFits (MessageDelete delete) = MessageDeleteFits delete
DispatchFits (MessageReactionAdd reaction) = ReactionFits reaction
DispatchFits (MessageReactionRemove reaction) = ReactionFits reaction
DispatchFits (TypingStart typing) = TypingStartFits typing
