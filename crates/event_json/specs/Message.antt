-- Gateway Events, Messages and Typing Start.
use Rattle.std.specs.Prelude.{ℕ, List, codes, Result, Ok}
use Rattle.serde_json.specs.Data.{Data, null, string, object, member, no_members}
use Rattle.dispatch_types.specs.declared.messages.MessageDelete.{MessageDelete}
use Rattle.dispatch_types.specs.declared.messages.Reaction.{Reaction}
use Rattle.dispatch_types.specs.declared.messages.TypingStart.{TypingStart}
use Rattle.object_json.specs.Kinds.{digits, count}
use Rattle.json_view.specs.Fields.{and_then}
use Rattle.object_json.specs.declared.fault.ReadFault.{ReadFault}
use Rattle.object_json.specs.Reading.{id_at, text_at, number_at, field_at}
use Rattle.object_json.specs.Fits.{IsId, IsWhole}

abbrev pub message_delete_data : MessageDelete → Data
message_delete_data d =
    object (member (codes "channel_id") (digits d.channel)
    (member (codes "guild_id") (digits d.guild)
    (member (codes "id") (digits d.id)
    no_members)))

-- an emoji that is a character has no id
abbrev pub emoji_data : List ℕ → Data
emoji_data name =
    object (member (codes "id") null
    (member (codes "name") (string name)
    no_members))

abbrev pub reaction_data : Reaction → Data
reaction_data r =
    object (member (codes "channel_id") (digits r.channel)
    (member (codes "emoji") (emoji_data r.emoji)
    (member (codes "guild_id") (digits r.guild)
    (member (codes "message_id") (digits r.message)
    (member (codes "user_id") (digits r.user)
    no_members)))))

abbrev pub typing_start_data : TypingStart → Data
typing_start_data t =
    object (member (codes "channel_id") (digits t.channel)
    (member (codes "guild_id") (digits t.guild)
    (member (codes "timestamp") (count t.seconds)
    (member (codes "user_id") (digits t.user)
    no_members))))

-- ---- reading

abbrev pub message_delete_from : Data → Result MessageDelete ReadFault
message_delete_from d =
    and_then (id_at (codes "channel_id") d) (λ channel.
    and_then (id_at (codes "guild_id") d) (λ guild.
    and_then (id_at (codes "id") d) (λ id.
    Ok (record { guild = guild; channel = channel; id = id }))))

abbrev pub MessageDeleteFits : MessageDelete → Type 0
MessageDeleteFits d = IsId d.channel × IsId d.guild × IsId d.id

abbrev pub emoji_at : Data → Result (List ℕ) ReadFault
emoji_at d = and_then (field_at (codes "emoji") d) (text_at (codes "name"))

abbrev pub reaction_from : Data → Result Reaction ReadFault
reaction_from d =
    and_then (id_at (codes "channel_id") d) (λ channel.
    and_then (emoji_at d) (λ emoji.
    and_then (id_at (codes "guild_id") d) (λ guild.
    and_then (id_at (codes "message_id") d) (λ message.
    and_then (id_at (codes "user_id") d) (λ user.
    Ok (record { guild = guild; channel = channel; message = message; user = user; emoji = emoji }))))))

abbrev pub ReactionFits : Reaction → Type 0
ReactionFits r = IsId r.channel × IsId r.guild × IsId r.message × IsId r.user

abbrev pub typing_start_from : Data → Result TypingStart ReadFault
typing_start_from d =
    and_then (id_at (codes "channel_id") d) (λ channel.
    and_then (id_at (codes "guild_id") d) (λ guild.
    and_then (number_at (codes "timestamp") d) (λ seconds.
    and_then (id_at (codes "user_id") d) (λ user.
    Ok (record { guild = guild; channel = channel; user = user; seconds = seconds })))))

abbrev pub TypingStartFits : TypingStart → Type 0
TypingStartFits t = IsId t.channel × IsId t.guild × IsWhole t.seconds × IsId t.user
