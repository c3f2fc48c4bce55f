-- The bits of the intents, by the documentation's names (Gateway, List of Intents).
use Rattle.std.specs.Prelude.{ℕ, Bool, ◌==◌, ◌^◌, List, [], ◌∷◌, codes, IsTrue}
use Rattle.std.specs.List.{list_any}
use Rattle.perm_bits.specs.Bits.{has_bit}

abbrev pub guilds : ℕ
guilds = 0

abbrev pub guild_members : ℕ
guild_members = 1

abbrev pub guild_moderation : ℕ
guild_moderation = 2

abbrev pub guild_expressions : ℕ
guild_expressions = 3

abbrev pub guild_integrations : ℕ
guild_integrations = 4

abbrev pub guild_webhooks : ℕ
guild_webhooks = 5

abbrev pub guild_invites : ℕ
guild_invites = 6

abbrev pub guild_voice_states : ℕ
guild_voice_states = 7

abbrev pub guild_presences : ℕ
guild_presences = 8

abbrev pub guild_messages : ℕ
guild_messages = 9

abbrev pub guild_message_reactions : ℕ
guild_message_reactions = 10

abbrev pub guild_message_typing : ℕ
guild_message_typing = 11

abbrev pub direct_messages : ℕ
direct_messages = 12

abbrev pub direct_message_reactions : ℕ
direct_message_reactions = 13

abbrev pub direct_message_typing : ℕ
direct_message_typing = 14

abbrev pub message_content : ℕ
message_content = 15

abbrev pub guild_scheduled_events : ℕ
guild_scheduled_events = 16

abbrev pub auto_moderation_configuration : ℕ
auto_moderation_configuration = 20

abbrev pub auto_moderation_execution : ℕ
auto_moderation_execution = 21

abbrev pub guild_message_polls : ℕ
guild_message_polls = 24

abbrev pub direct_message_polls : ℕ
direct_message_polls = 25

abbrev pub intent_bits : List ℕ
intent_bits =
    guilds ∷
    guild_members ∷
    guild_moderation ∷
    guild_expressions ∷
    guild_integrations ∷
    guild_webhooks ∷
    guild_invites ∷
    guild_voice_states ∷
    guild_presences ∷
    guild_messages ∷
    guild_message_reactions ∷
    guild_message_typing ∷
    direct_messages ∷
    direct_message_reactions ∷
    direct_message_typing ∷
    message_content ∷
    guild_scheduled_events ∷
    auto_moderation_configuration ∷
    auto_moderation_execution ∷
    guild_message_polls ∷
    direct_message_polls ∷
    []

-- the intents that a bot must be allowed beforehand (Gateway, Privileged Intents)
abbrev pub privileged_bits : List ℕ
privileged_bits = guild_members ∷ guild_presences ∷ message_content ∷ []

abbrev pub is_among : List ℕ → ℕ → Bool
is_among bits b = list_any (λ k. b == k) bits

-- every bit of a number is an intent's
unfoldable pub HasIntentsAlone : ℕ → Type 0
HasIntentsAlone n = (b : ℕ) → IsTrue (has_bit n b) → IsTrue (is_among intent_bits b)

-- each intent's name and the set of it alone
abbrev pub named_intents : List (List ℕ × ℕ)
named_intents =
    (codes "GUILDS", 2 ^ guilds) ∷
    (codes "GUILD_MEMBERS", 2 ^ guild_members) ∷
    (codes "GUILD_MODERATION", 2 ^ guild_moderation) ∷
    (codes "GUILD_EXPRESSIONS", 2 ^ guild_expressions) ∷
    (codes "GUILD_INTEGRATIONS", 2 ^ guild_integrations) ∷
    (codes "GUILD_WEBHOOKS", 2 ^ guild_webhooks) ∷
    (codes "GUILD_INVITES", 2 ^ guild_invites) ∷
    (codes "GUILD_VOICE_STATES", 2 ^ guild_voice_states) ∷
    (codes "GUILD_PRESENCES", 2 ^ guild_presences) ∷
    (codes "GUILD_MESSAGES", 2 ^ guild_messages) ∷
    (codes "GUILD_MESSAGE_REACTIONS", 2 ^ guild_message_reactions) ∷
    (codes "GUILD_MESSAGE_TYPING", 2 ^ guild_message_typing) ∷
    (codes "DIRECT_MESSAGES", 2 ^ direct_messages) ∷
    (codes "DIRECT_MESSAGE_REACTIONS", 2 ^ direct_message_reactions) ∷
    (codes "DIRECT_MESSAGE_TYPING", 2 ^ direct_message_typing) ∷
    (codes "MESSAGE_CONTENT", 2 ^ message_content) ∷
    (codes "GUILD_SCHEDULED_EVENTS", 2 ^ guild_scheduled_events) ∷
    (codes "AUTO_MODERATION_CONFIGURATION", 2 ^ auto_moderation_configuration) ∷
    (codes "AUTO_MODERATION_EXECUTION", 2 ^ auto_moderation_execution) ∷
    (codes "GUILD_MESSAGE_POLLS", 2 ^ guild_message_polls) ∷
    (codes "DIRECT_MESSAGE_POLLS", 2 ^ direct_message_polls) ∷
    []
