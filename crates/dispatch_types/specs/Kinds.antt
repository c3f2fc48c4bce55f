-- The kinds of dispatches (Gateway Events, Receive Events).
use Rattle.intent_set.specs.declared.kind.Kind.{Kind}
use Rattle.intent_set.specs.declared.kind.Kind.TheVariants as kind
use Rattle.dispatch_types.specs.declared.dispatch.Dispatch.{Dispatch}
use Rattle.dispatch_types.specs.declared.dispatch.Dispatch.TheVariants.{Ready, Resumed, GuildCreate, GuildUpdate, GuildDelete, GuildRoleCreate, GuildRoleUpdate, GuildRoleDelete, ChannelCreate, ChannelUpdate, ChannelDelete, ThreadCreate, ThreadUpdate, ThreadDelete, ThreadListSync, ThreadMembersUpdate, GuildMemberAdd, GuildMemberUpdate, GuildMemberRemove, GuildMembersChunk, VoiceStateUpdate, PresenceUpdate, MessageCreate, MessageUpdate, MessageDelete, MessageReactionAdd, MessageReactionRemove, TypingStart}

abbrev pub kind_of : Dispatch → Kind
kind_of (Ready ready) = kind.Ready
kind_of Resumed = kind.Resumed
kind_of (GuildCreate create) = kind.GuildCreate
kind_of (GuildUpdate update) = kind.GuildUpdate
kind_of (GuildDelete delete) = kind.GuildDelete
kind_of (GuildRoleCreate role) = kind.GuildRoleCreate
kind_of (GuildRoleUpdate role) = kind.GuildRoleUpdate
kind_of (GuildRoleDelete delete) = kind.GuildRoleDelete
kind_of (ChannelCreate channel) = kind.ChannelCreate
kind_of (ChannelUpdate channel) = kind.ChannelUpdate
kind_of (ChannelDelete channel) = kind.ChannelDelete
kind_of (ThreadCreate create) = kind.ThreadCreate
kind_of (ThreadUpdate thread) = kind.ThreadUpdate
kind_of (ThreadDelete delete) = kind.ThreadDelete
kind_of (ThreadListSync sync) = kind.ThreadListSync
kind_of (ThreadMembersUpdate update) = kind.ThreadMembersUpdate
kind_of (GuildMemberAdd member) = kind.GuildMemberAdd
kind_of (GuildMemberUpdate member) = kind.GuildMemberUpdate
kind_of (GuildMemberRemove remove) = kind.GuildMemberRemove
kind_of (GuildMembersChunk chunk) = kind.GuildMembersChunk
kind_of (VoiceStateUpdate update) = kind.VoiceStateUpdate
kind_of (PresenceUpdate presence) = kind.PresenceUpdate
kind_of (MessageCreate message) = kind.MessageCreate
kind_of (MessageUpdate message) = kind.MessageUpdate
kind_of (MessageDelete delete) = kind.MessageDelete
kind_of (MessageReactionAdd reaction) = kind.MessageReactionAdd
kind_of (MessageReactionRemove reaction) = kind.MessageReactionRemove
kind_of (TypingStart typing) = kind.TypingStart
