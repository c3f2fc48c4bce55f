-- The bits of the permissions, by the documentation's names (Permissions, Bitwise Permission Flags).
use Rattle.std.specs.Prelude.{ℕ, ◌^◌, List, [], ◌∷◌, codes}

abbrev pub create_instant_invite : ℕ
create_instant_invite = 0

abbrev pub kick_members : ℕ
kick_members = 1

abbrev pub ban_members : ℕ
ban_members = 2

abbrev pub administrator : ℕ
administrator = 3

abbrev pub manage_channels : ℕ
manage_channels = 4

abbrev pub manage_guild : ℕ
manage_guild = 5

abbrev pub add_reactions : ℕ
add_reactions = 6

abbrev pub view_audit_log : ℕ
view_audit_log = 7

abbrev pub priority_speaker : ℕ
priority_speaker = 8

abbrev pub stream : ℕ
stream = 9

abbrev pub view_channel : ℕ
view_channel = 10

abbrev pub send_messages : ℕ
send_messages = 11

abbrev pub send_tts_messages : ℕ
send_tts_messages = 12

abbrev pub manage_messages : ℕ
manage_messages = 13

abbrev pub embed_links : ℕ
embed_links = 14

abbrev pub attach_files : ℕ
attach_files = 15

abbrev pub read_message_history : ℕ
read_message_history = 16

abbrev pub mention_everyone : ℕ
mention_everyone = 17

abbrev pub use_external_emojis : ℕ
use_external_emojis = 18

abbrev pub view_guild_insights : ℕ
view_guild_insights = 19

abbrev pub connect : ℕ
connect = 20

abbrev pub speak : ℕ
speak = 21

abbrev pub mute_members : ℕ
mute_members = 22

abbrev pub deafen_members : ℕ
deafen_members = 23

abbrev pub move_members : ℕ
move_members = 24

abbrev pub use_vad : ℕ
use_vad = 25

abbrev pub change_nickname : ℕ
change_nickname = 26

abbrev pub manage_nicknames : ℕ
manage_nicknames = 27

abbrev pub manage_roles : ℕ
manage_roles = 28

abbrev pub manage_webhooks : ℕ
manage_webhooks = 29

abbrev pub manage_guild_expressions : ℕ
manage_guild_expressions = 30

abbrev pub use_application_commands : ℕ
use_application_commands = 31

abbrev pub request_to_speak : ℕ
request_to_speak = 32

abbrev pub manage_events : ℕ
manage_events = 33

abbrev pub manage_threads : ℕ
manage_threads = 34

abbrev pub create_public_threads : ℕ
create_public_threads = 35

abbrev pub create_private_threads : ℕ
create_private_threads = 36

abbrev pub use_external_stickers : ℕ
use_external_stickers = 37

abbrev pub send_messages_in_threads : ℕ
send_messages_in_threads = 38

abbrev pub use_embedded_activities : ℕ
use_embedded_activities = 39

abbrev pub moderate_members : ℕ
moderate_members = 40

-- each permission's name and the set of it alone
abbrev pub named_permissions : List (List ℕ × ℕ)
named_permissions =
    (codes "CREATE_INSTANT_INVITE", 2 ^ create_instant_invite) ∷
    (codes "KICK_MEMBERS", 2 ^ kick_members) ∷
    (codes "BAN_MEMBERS", 2 ^ ban_members) ∷
    (codes "ADMINISTRATOR", 2 ^ administrator) ∷
    (codes "MANAGE_CHANNELS", 2 ^ manage_channels) ∷
    (codes "MANAGE_GUILD", 2 ^ manage_guild) ∷
    (codes "ADD_REACTIONS", 2 ^ add_reactions) ∷
    (codes "VIEW_AUDIT_LOG", 2 ^ view_audit_log) ∷
    (codes "PRIORITY_SPEAKER", 2 ^ priority_speaker) ∷
    (codes "STREAM", 2 ^ stream) ∷
    (codes "VIEW_CHANNEL", 2 ^ view_channel) ∷
    (codes "SEND_MESSAGES", 2 ^ send_messages) ∷
    (codes "SEND_TTS_MESSAGES", 2 ^ send_tts_messages) ∷
    (codes "MANAGE_MESSAGES", 2 ^ manage_messages) ∷
    (codes "EMBED_LINKS", 2 ^ embed_links) ∷
    (codes "ATTACH_FILES", 2 ^ attach_files) ∷
    (codes "READ_MESSAGE_HISTORY", 2 ^ read_message_history) ∷
    (codes "MENTION_EVERYONE", 2 ^ mention_everyone) ∷
    (codes "USE_EXTERNAL_EMOJIS", 2 ^ use_external_emojis) ∷
    (codes "VIEW_GUILD_INSIGHTS", 2 ^ view_guild_insights) ∷
    (codes "CONNECT", 2 ^ connect) ∷
    (codes "SPEAK", 2 ^ speak) ∷
    (codes "MUTE_MEMBERS", 2 ^ mute_members) ∷
    (codes "DEAFEN_MEMBERS", 2 ^ deafen_members) ∷
    (codes "MOVE_MEMBERS", 2 ^ move_members) ∷
    (codes "USE_VAD", 2 ^ use_vad) ∷
    (codes "CHANGE_NICKNAME", 2 ^ change_nickname) ∷
    (codes "MANAGE_NICKNAMES", 2 ^ manage_nicknames) ∷
    (codes "MANAGE_ROLES", 2 ^ manage_roles) ∷
    (codes "MANAGE_WEBHOOKS", 2 ^ manage_webhooks) ∷
    (codes "MANAGE_GUILD_EXPRESSIONS", 2 ^ manage_guild_expressions) ∷
    (codes "USE_APPLICATION_COMMANDS", 2 ^ use_application_commands) ∷
    (codes "REQUEST_TO_SPEAK", 2 ^ request_to_speak) ∷
    (codes "MANAGE_EVENTS", 2 ^ manage_events) ∷
    (codes "MANAGE_THREADS", 2 ^ manage_threads) ∷
    (codes "CREATE_PUBLIC_THREADS", 2 ^ create_public_threads) ∷
    (codes "CREATE_PRIVATE_THREADS", 2 ^ create_private_threads) ∷
    (codes "USE_EXTERNAL_STICKERS", 2 ^ use_external_stickers) ∷
    (codes "SEND_MESSAGES_IN_THREADS", 2 ^ send_messages_in_threads) ∷
    (codes "USE_EMBEDDED_ACTIVITIES", 2 ^ use_embedded_activities) ∷
    (codes "MODERATE_MEMBERS", 2 ^ moderate_members) ∷
    []
