-- The dispatches by their names (Gateway Events, Receive Events).
use Rattle.std.specs.Prelude.{ℕ, Option, List, [], ◌∷◌, codes}
use Rattle.std.specs.List.{find}
use Rattle.std.specs.Str.{bytes_eq}
use Rattle.intent_set.specs.declared.kind.Kind.{Kind}
use Rattle.intent_set.specs.declared.kind.Kind.TheVariants.{Ready, Resumed, GuildCreate, GuildUpdate, GuildDelete, GuildRoleCreate, GuildRoleUpdate, GuildRoleDelete, ChannelCreate, ChannelUpdate, ChannelDelete, ThreadCreate, ThreadUpdate, ThreadDelete, ThreadListSync, ThreadMembersUpdate, GuildMemberAdd, GuildMemberUpdate, GuildMemberRemove, GuildMembersChunk, VoiceStateUpdate, PresenceUpdate, MessageCreate, MessageUpdate, MessageDelete, MessageReactionAdd, MessageReactionRemove, TypingStart}

-- the field `t` of a kind's dispatches
abbrev pub name_of : Kind → List ℕ
name_of Ready = codes "READY"
name_of Resumed = codes "RESUMED"
name_of GuildCreate = codes "GUILD_CREATE"
name_of GuildUpdate = codes "GUILD_UPDATE"
name_of GuildDelete = codes "GUILD_DELETE"
name_of GuildRoleCreate = codes "GUILD_ROLE_CREATE"
name_of GuildRoleUpdate = codes "GUILD_ROLE_UPDATE"
name_of GuildRoleDelete = codes "GUILD_ROLE_DELETE"
name_of ChannelCreate = codes "CHANNEL_CREATE"
name_of ChannelUpdate = codes "CHANNEL_UPDATE"
name_of ChannelDelete = codes "CHANNEL_DELETE"
name_of ThreadCreate = codes "THREAD_CREATE"
name_of ThreadUpdate = codes "THREAD_UPDATE"
name_of ThreadDelete = codes "THREAD_DELETE"
name_of ThreadListSync = codes "THREAD_LIST_SYNC"
name_of ThreadMembersUpdate = codes "THREAD_MEMBERS_UPDATE"
name_of GuildMemberAdd = codes "GUILD_MEMBER_ADD"
name_of GuildMemberUpdate = codes "GUILD_MEMBER_UPDATE"
name_of GuildMemberRemove = codes "GUILD_MEMBER_REMOVE"
name_of GuildMembersChunk = codes "GUILD_MEMBERS_CHUNK"
name_of VoiceStateUpdate = codes "VOICE_STATE_UPDATE"
name_of PresenceUpdate = codes "PRESENCE_UPDATE"
name_of MessageCreate = codes "MESSAGE_CREATE"
name_of MessageUpdate = codes "MESSAGE_UPDATE"
name_of MessageDelete = codes "MESSAGE_DELETE"
name_of MessageReactionAdd = codes "MESSAGE_REACTION_ADD"
name_of MessageReactionRemove = codes "MESSAGE_REACTION_REMOVE"
name_of TypingStart = codes "TYPING_START"

abbrev pub kinds : List Kind
kinds =
    Ready ∷
    Resumed ∷
    GuildCreate ∷
    GuildUpdate ∷
    GuildDelete ∷
    GuildRoleCreate ∷
    GuildRoleUpdate ∷
    GuildRoleDelete ∷
    ChannelCreate ∷
    ChannelUpdate ∷
    ChannelDelete ∷
    ThreadCreate ∷
    ThreadUpdate ∷
    ThreadDelete ∷
    ThreadListSync ∷
    ThreadMembersUpdate ∷
    GuildMemberAdd ∷
    GuildMemberUpdate ∷
    GuildMemberRemove ∷
    GuildMembersChunk ∷
    VoiceStateUpdate ∷
    PresenceUpdate ∷
    MessageCreate ∷
    MessageUpdate ∷
    MessageDelete ∷
    MessageReactionAdd ∷
    MessageReactionRemove ∷
    TypingStart ∷
    []

-- the kind of this name
unfoldable pub kind_of : List ℕ → Option Kind
kind_of name = find (λ k. bytes_eq name (name_of k)) kinds
