-- The guilds that may hold a thread that their bot does not see.
use Rattle.std.specs.Prelude.{◌≡◌, ℕ, List, [], ◌∷◌, Bool, true, false}
use Rattle.collections.specs.ById.{has_id, changed_id}
use Rattle.guild_model.specs.Record.{own_id}
use Rattle.dispatch_types.specs.declared.dispatch.Dispatch.{Dispatch}
use Rattle.dispatch_types.specs.declared.dispatch.Dispatch.TheVariants.{GuildMemberAdd, GuildMemberRemove, GuildMembersChunk, VoiceStateUpdate, PresenceUpdate, MessageCreate, MessageUpdate, MessageDelete, MessageReactionAdd, MessageReactionRemove, TypingStart}
use Rattle.dispatch_types.specs.Fold.{on_open, purged}
use Rattle.client_cache.specs.declared.held.HeldGuild.{HeldGuild}
use Rattle.client_cache.specs.Cached.{held_id, held_in, entry_purged}

-- the bot may see less of the threads after the dispatch: true of all but those of messages, voice
-- states, presences and other members
abbrev pub may_hide : Dispatch → Bool
may_hide (GuildMemberAdd add) = false
may_hide (GuildMemberRemove remove) = false
may_hide (GuildMembersChunk chunk) = false
may_hide (VoiceStateUpdate update) = false
may_hide (PresenceUpdate presence) = false
may_hide (MessageCreate message) = false
may_hide (MessageUpdate message) = false
may_hide (MessageDelete delete) = false
may_hide (MessageReactionAdd reaction) = false
may_hide (MessageReactionRemove reaction) = false
may_hide (TypingStart typing) = false
may_hide _ = true

-- these guilds without the threads that the bot does not see
abbrev pub purged_at : List ℕ → List HeldGuild → List HeldGuild
purged_at [] guilds = guilds
purged_at (g ∷ gs) guilds = purged_at gs (changed_id held_id g entry_purged guilds)

-- the bot sees each thread that is held of any guild but these
abbrev pub AreSettled : List ℕ → List HeldGuild → Type 0
AreSettled others guilds = (g : ℕ) → has_id own_id g others ≡ false
    → on_open (purged 0 g) (held_in 0 guilds g).view ≡ (held_in 0 guilds g).view
