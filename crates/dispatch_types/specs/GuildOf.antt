-- The guild that a dispatch is of (Gateway Events, Receive Events); READY and RESUMED are of none.
use Rattle.std.specs.Prelude.{ℕ, Option, Some, None}
use Rattle.dispatch_types.specs.declared.dispatch.Dispatch.{Dispatch}
use Rattle.dispatch_types.specs.declared.dispatch.Dispatch.TheVariants.{Ready, Resumed, GuildCreate, GuildUpdate, GuildDelete, GuildRoleCreate, GuildRoleUpdate, GuildRoleDelete, ChannelCreate, ChannelUpdate, ChannelDelete, ThreadCreate, ThreadUpdate, ThreadDelete, ThreadListSync, ThreadMembersUpdate, GuildMemberAdd, GuildMemberUpdate, GuildMemberRemove, GuildMembersChunk, VoiceStateUpdate, PresenceUpdate, MessageCreate, MessageUpdate, MessageDelete, MessageReactionAdd, MessageReactionRemove, TypingStart}

abbrev pub guild_of : Dispatch → Option ℕ
guild_of (Ready ready) = None
guild_of Resumed = None
guild_of (GuildCreate create) = Some create.id
guild_of (GuildUpdate update) = Some update.id
guild_of (GuildDelete delete) = Some delete.id
guild_of (GuildRoleCreate role) = Some role.guild
guild_of (GuildRoleUpdate role) = Some role.guild
guild_of (GuildRoleDelete delete) = Some delete.guild
guild_of (ChannelCreate channel) = Some channel.guild
guild_of (ChannelUpdate channel) = Some channel.guild
guild_of (ChannelDelete channel) = Some channel.guild
guild_of (ThreadCreate create) = Some create.thread.guild
guild_of (ThreadUpdate thread) = Some thread.guild
guild_of (ThreadDelete delete) = Some delete.guild
guild_of (ThreadListSync sync) = Some sync.guild
guild_of (ThreadMembersUpdate update) = Some update.guild
guild_of (GuildMemberAdd member) = Some member.guild
guild_of (GuildMemberUpdate member) = Some member.guild
guild_of (GuildMemberRemove remove) = Some remove.guild
guild_of (GuildMembersChunk chunk) = Some chunk.guild
guild_of (VoiceStateUpdate update) = Some update.guild
guild_of (PresenceUpdate presence) = Some presence.guild
guild_of (MessageCreate message) = Some message.guild
guild_of (MessageUpdate message) = Some message.guild
guild_of (MessageDelete delete) = Some delete.guild
guild_of (MessageReactionAdd reaction) = Some reaction.guild
guild_of (MessageReactionRemove reaction) = Some reaction.guild
guild_of (TypingStart typing) = Some typing.guild
