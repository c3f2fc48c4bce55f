-- Message Resource, Message Object.
use Rattle.std.specs.Prelude.{ℕ, ◌+◌, ◌/◌, ◌^◌, codes, Result, Ok}
use Rattle.serde_json.specs.Data.{Data, string, object, Members, member, no_members}
use Rattle.dispatch_types.specs.declared.messages.MessageObject.{MessageObject}
use Rattle.object_json.specs.Kinds.{digits, count, time, list, blanks}
use Rattle.object_json.specs.User.{user_data}
use Rattle.json_view.specs.Fields.{and_then}
use Rattle.object_json.specs.declared.fault.ReadFault.{ReadFault}
use Rattle.object_json.specs.Reading.{id_at, text_at, parts_at, list_at, value_at}
use Rattle.object_json.specs.User.{user_from, UserFits}
use Rattle.object_json.specs.Fits.{IsId, IsPartCount, Each}

-- the moment of an id, in milliseconds since 1970 (API Reference, Snowflakes)
abbrev pub moment_of : ℕ → ℕ
moment_of id = id / 2 ^ 22 + 1420070400000

-- what follows the content
abbrev pub message_rest : MessageObject → Members
message_rest m =
    member (codes "embeds") (blanks m.embeds)
    (member (codes "guild_id") (digits m.guild)
    (member (codes "id") (digits m.id)
    (member (codes "mentions") (list user_data m.mentions)
    (member (codes "timestamp") (time (moment_of m.id))
    (member (codes "type") (count 0)
    no_members)))))

abbrev pub message_data : MessageObject → Data
message_data m =
    object (member (codes "attachments") (blanks m.attachments)
    (member (codes "author") (user_data m.author)
    (member (codes "channel_id") (digits m.channel)
    (member (codes "components") (blanks m.components)
    (member (codes "content") (string m.content)
    (message_rest m))))))

abbrev pub message_from : Data → Result MessageObject ReadFault
message_from d =
    and_then (parts_at (codes "attachments") d) (λ attachments.
    and_then (value_at user_from (codes "author") d) (λ author.
    and_then (id_at (codes "channel_id") d) (λ channel.
    and_then (parts_at (codes "components") d) (λ components.
    and_then (text_at (codes "content") d) (λ content.
    and_then (parts_at (codes "embeds") d) (λ embeds.
    and_then (id_at (codes "guild_id") d) (λ guild.
    and_then (id_at (codes "id") d) (λ id.
    and_then (list_at user_from (codes "mentions") d) (λ mentions.
    Ok (record { guild = guild; channel = channel; id = id; author = author; content = content; mentions = mentions; embeds = embeds; attachments = attachments; components = components }))))))))))

abbrev pub MessageRestFits : MessageObject → Type 0
MessageRestFits m = IsPartCount m.embeds × IsId m.guild × IsId m.id × Each UserFits m.mentions

abbrev pub MessageFits : MessageObject → Type 0
MessageFits m =
    IsPartCount m.attachments × UserFits m.author × IsId m.channel × IsPartCount m.components × MessageRestFits m
