-- Channels that are created and changed (Guild Resource, Create Guild Channel; Channels Resource,
-- Modify Channel).
use Rattle.std.specs.Prelude.{ℕ, length, [], ◌∷◌, Bool, true, false, not, ◌||◌, Option, Some, None}
use Rattle.collections.specs.ById.{find_id, put_id, changed_id}
use Rattle.guild_model.specs.declared.channel.Channel.{Channel}
use Rattle.guild_model.specs.declared.channel.ChannelKind.{ChannelKind}
use Rattle.guild_model.specs.declared.channel.ChannelKind.TheVariants as channel
use Rattle.guild_model.specs.declared.channel.Overwrites.{Overwrites}
use Rattle.guild_model.specs.declared.verdict.Verdict.{Verdict}
use Rattle.guild_model.specs.declared.verdict.Verdict.TheVariants.{IdTaken, WrongType}
use Rattle.guild_model.specs.Record.{Record, channel_id}
use Rattle.guild_model.specs.Consistent.{is_channel_or_thread}
use Rattle.guild_model.specs.Tests.{refused_if, first_of, too_long, too_many, unknown_channel}
use Rattle.channel_edit.specs.declared.channel_create.ChannelCreate.{ChannelCreate}
use Rattle.channel_edit.specs.declared.channel_update.ChannelUpdate.{ChannelUpdate}

abbrev pub is_category : ChannelKind → Bool
is_category channel.Category = true
is_category channel.Text = false
is_category channel.Voice = false
is_category channel.Announcement = false
is_category channel.Stage = false
is_category channel.Forum = false

abbrev pub is_category_there : Option Channel → Bool
is_category_there None = false
is_category_there (Some c) = is_category c.kind

-- the tests of a parent, which may be missing: it is a channel of the guild
abbrev pub unknown_parent : Record → Option ℕ → Option Verdict
unknown_parent g None = None
unknown_parent g (Some parent) = unknown_channel g parent

-- and it is a category, which itself has no parent
abbrev pub wrong_parent : Record → ChannelKind → Option ℕ → Option Verdict
wrong_parent g kind None = None
wrong_parent g kind (Some parent) =
    refused_if (is_category kind || not (is_category_there (find_id channel_id parent g.channels))) WrongType

-- channel_create
abbrev pub channel_create_verdict : Record → ChannelCreate → Option Verdict
channel_create_verdict g edit = first_of (
    refused_if (is_channel_or_thread g edit.channel) IdTaken
    ∷ unknown_parent g edit.parent
    ∷ wrong_parent g edit.kind edit.parent
    ∷ too_many 500 (length g.channels)
    ∷ too_long 100 edit.name
    ∷ [])

abbrev pub no_overwrites : Overwrites
no_overwrites = record { roles = []; members = [] }

abbrev pub overwrites_there : Option Channel → Overwrites
overwrites_there None = no_overwrites
overwrites_there (Some c) = c.overwrites

-- the overwrites of the parent where it is to be in line with it, and else none
abbrev pub first_overwrites : Record → Option ℕ → Bool → Overwrites
first_overwrites g None sync = no_overwrites
first_overwrites g (Some parent) false = no_overwrites
first_overwrites g (Some parent) true = overwrites_there (find_id channel_id parent g.channels)

abbrev pub new_channel : Record → ChannelCreate → Channel
new_channel g edit = record {
  id = edit.channel;
  kind = edit.kind;
  name = edit.name;
  parent = edit.parent;
  position = edit.position;
  overwrites = first_overwrites g edit.parent edit.sync;
}

abbrev pub channel_created : Record → ChannelCreate → Record
channel_created g edit = record g { channels = put_id channel_id (new_channel g edit) g.channels }

-- channel_update: the type and the overwrites stay
abbrev pub wrong_parent_of : Record → Option Channel → Option ℕ → Option Verdict
wrong_parent_of g None parent = None
wrong_parent_of g (Some c) parent = wrong_parent g c.kind parent

abbrev pub channel_update_verdict : Record → ChannelUpdate → Option Verdict
channel_update_verdict g edit = first_of (
    unknown_channel g edit.channel
    ∷ unknown_parent g edit.parent
    ∷ wrong_parent_of g (find_id channel_id edit.channel g.channels) edit.parent
    ∷ too_long 100 edit.name
    ∷ [])

abbrev pub with_settings : ChannelUpdate → Channel → Channel
with_settings edit c = record c { name = edit.name; parent = edit.parent; position = edit.position }

abbrev pub with_channel_changed : Record → ℕ → (Channel → Channel) → Record
with_channel_changed g channel change = record g { channels = changed_id channel_id channel change g.channels }

abbrev pub channel_updated : Record → ChannelUpdate → Record
channel_updated g edit = with_channel_changed g edit.channel (with_settings edit)
