-- Which dispatches a session's intents ask for (Gateway, List of Intents).
use Rattle.std.specs.Prelude.{ℕ, Bool, true, ◌||◌, ◌&&◌}
use Rattle.perm_bits.specs.Bits.{has_bit}
use Rattle.intent_set.specs.Intents.{guilds, guild_members, guild_voice_states, guild_presences, guild_messages, guild_message_reactions, guild_message_typing}
use Rattle.intent_set.specs.declared.kind.Kind.{Kind}
use Rattle.intent_set.specs.declared.kind.Kind.TheVariants.{Ready, Resumed, GuildCreate, GuildUpdate, GuildDelete, GuildRoleCreate, GuildRoleUpdate, GuildRoleDelete, ChannelCreate, ChannelUpdate, ChannelDelete, ThreadCreate, ThreadUpdate, ThreadDelete, ThreadListSync, ThreadMembersUpdate, GuildMemberAdd, GuildMemberUpdate, GuildMemberRemove, GuildMembersChunk, VoiceStateUpdate, PresenceUpdate, MessageCreate, MessageUpdate, MessageDelete, MessageReactionAdd, MessageReactionRemove, TypingStart}

-- `own`: the dispatch is about the session's own bot
abbrev pub asks : ℕ → Kind → Bool → Bool
asks intents Ready own = true
asks intents Resumed own = true
asks intents GuildCreate own = has_bit intents guilds
asks intents GuildUpdate own = has_bit intents guilds
asks intents GuildDelete own = has_bit intents guilds
asks intents GuildRoleCreate own = has_bit intents guilds
asks intents GuildRoleUpdate own = has_bit intents guilds
asks intents GuildRoleDelete own = has_bit intents guilds
asks intents ChannelCreate own = has_bit intents guilds
asks intents ChannelUpdate own = has_bit intents guilds
asks intents ChannelDelete own = has_bit intents guilds
asks intents ThreadCreate own = has_bit intents guilds
asks intents ThreadUpdate own = has_bit intents guilds
asks intents ThreadDelete own = has_bit intents guilds
asks intents ThreadListSync own = has_bit intents guilds
asks intents ThreadMembersUpdate own = has_bit intents guilds && (own || has_bit intents guild_members)
asks intents GuildMemberAdd own = has_bit intents guild_members
asks intents GuildMemberUpdate own = own || has_bit intents guild_members
asks intents GuildMemberRemove own = has_bit intents guild_members
asks intents GuildMembersChunk own = true
asks intents VoiceStateUpdate own = has_bit intents guild_voice_states
asks intents PresenceUpdate own = has_bit intents guild_presences
asks intents MessageCreate own = has_bit intents guild_messages
asks intents MessageUpdate own = has_bit intents guild_messages
asks intents MessageDelete own = has_bit intents guild_messages
asks intents MessageReactionAdd own = has_bit intents guild_message_reactions
asks intents MessageReactionRemove own = has_bit intents guild_message_reactions
asks intents TypingStart own = has_bit intents guild_message_typing
