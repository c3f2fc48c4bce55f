-- Sets of kinds of dispatches (Gateway Events, Receive Events).
use Rattle.std.specs.Prelude.{ℕ, Bool}
use Rattle.perm_bits.specs.Bits.{has_bit}
use Rattle.intent_set.specs.declared.kind.Kind.{Kind}
use Rattle.intent_set.specs.declared.kind.Kind.TheVariants.{Ready, Resumed, GuildCreate, GuildUpdate, GuildDelete, GuildRoleCreate, GuildRoleUpdate, GuildRoleDelete, ChannelCreate, ChannelUpdate, ChannelDelete, ThreadCreate, ThreadUpdate, ThreadDelete, ThreadListSync, ThreadMembersUpdate, GuildMemberAdd, GuildMemberUpdate, GuildMemberRemove, GuildMembersChunk, VoiceStateUpdate, PresenceUpdate, MessageCreate, MessageUpdate, MessageDelete, MessageReactionAdd, MessageReactionRemove, TypingStart}

-- the place of a kind in the documentation's order
abbrev pub place : Kind → ℕ
place Ready = 0
place Resumed = 1
place GuildCreate = 2
place GuildUpdate = 3
place GuildDelete = 4
place GuildRoleCreate = 5
place GuildRoleUpdate = 6
place GuildRoleDelete = 7
place ChannelCreate = 8
place ChannelUpdate = 9
place ChannelDelete = 10
place ThreadCreate = 11
place ThreadUpdate = 12
place ThreadDelete = 13
place ThreadListSync = 14
place ThreadMembersUpdate = 15
place GuildMemberAdd = 16
place GuildMemberUpdate = 17
place GuildMemberRemove = 18
place GuildMembersChunk = 19
place VoiceStateUpdate = 20
place PresenceUpdate = 21
place MessageCreate = 22
place MessageUpdate = 23
place MessageDelete = 24
place MessageReactionAdd = 25
place MessageReactionRemove = 26
place TypingStart = 27

-- a set of kinds is a number, which has the bit of each of its kinds' places
abbrev pub holds : ℕ → Kind → Bool
holds kinds kind = has_bit kinds (place kind)
