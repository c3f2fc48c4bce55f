-- The fields of the edits of messages, reactions and typing.
use Rattle.std.specs.Prelude.{ℕ, List, [], ◌∷◌, Result, Ok, codes}
use Rattle.serde_json.specs.Data.{Data, string}
use Rattle.json_view.specs.Fields.{and_then}
use Rattle.message_edit.specs.declared.MessageEdit.{MessageEdit}
use Rattle.message_edit.specs.declared.MessageEdit.TheVariants as edit
use Rattle.message_edit.specs.declared.body.MessageBody.{MessageBody}
use Rattle.message_edit.specs.declared.message_create.MessageCreate.{MessageCreate}
use Rattle.message_edit.specs.declared.message_update.MessageUpdate.{MessageUpdate}
use Rattle.message_edit.specs.declared.reaction.ReactionBody.{ReactionBody}
use Rattle.message_edit.specs.declared.typing.Typing.{Typing}
use Rattle.edit_fields.specs.declared.fault.LineFault.{LineFault}
use Rattle.edit_fields.specs.declared.names.MessageEditName.{MessageEditName}
use Rattle.edit_fields.specs.declared.names.MessageEditName.TheVariants as named
use Rattle.edit_fields.specs.Fields.{text_at, id_at, ids_at, parts_at, moment_at}
use Rattle.edit_fields.specs.Members.{count, id_data, ids_data}

-- ---- reading

abbrev pub body_from : Data → Result MessageBody LineFault
body_from d =
    and_then (text_at (codes "content") d) (λ content.
    and_then (ids_at (codes "mentions") d) (λ mentions.
    and_then (parts_at (codes "embeds") d) (λ embeds.
    and_then (parts_at (codes "attachments") d) (λ attachments.
    and_then (parts_at (codes "components") d) (λ components.
    Ok (record {
      content = content;
      mentions = mentions;
      embeds = embeds;
      attachments = attachments;
      components = components;
    }))))))

abbrev pub message_create_from : Data → Result MessageCreate LineFault
message_create_from d =
    and_then (id_at (codes "message") d) (λ message.
    and_then (id_at (codes "channel") d) (λ channel.
    and_then (id_at (codes "author") d) (λ author.
    and_then (body_from d) (λ body.
    Ok (record { message = message; channel = channel; author = author; body = body })))))

abbrev pub message_update_from : Data → Result MessageUpdate LineFault
message_update_from d =
    and_then (id_at (codes "message") d) (λ message.
    and_then (body_from d) (λ body.
    Ok (record { message = message; body = body })))

abbrev pub reaction_from : Data → Result ReactionBody LineFault
reaction_from d =
    and_then (id_at (codes "message") d) (λ message.
    and_then (id_at (codes "user") d) (λ user.
    and_then (text_at (codes "emoji") d) (λ emoji.
    Ok (record { message = message; user = user; emoji = emoji }))))

abbrev pub typing_from : Data → Result Typing LineFault
typing_from d =
    and_then (id_at (codes "channel") d) (λ channel.
    and_then (id_at (codes "user") d) (λ user.
    and_then (moment_at (codes "at") d) (λ at.
    Ok (record { channel = channel; user = user; at = at }))))

abbrev pub message_edit_from : MessageEditName → Data → Result MessageEdit LineFault
message_edit_from named.MessageCreate d =
    and_then (message_create_from d) (λ e. Ok (edit.MessageCreate e))
message_edit_from named.MessageUpdate d =
    and_then (message_update_from d) (λ e. Ok (edit.MessageUpdate e))
message_edit_from named.MessageDelete d =
    and_then (id_at (codes "message") d) (λ message. Ok (edit.MessageDelete message))
message_edit_from named.ReactionAdd d =
    and_then (reaction_from d) (λ body. Ok (edit.ReactionAdd body))
message_edit_from named.ReactionRemove d =
    and_then (reaction_from d) (λ body. Ok (edit.ReactionRemove body))
message_edit_from named.Typing d = and_then (typing_from d) (λ e. Ok (edit.Typing e))

-- ---- writing

abbrev pub message_edit_name : MessageEdit → MessageEditName
message_edit_name (edit.MessageCreate e) = named.MessageCreate
message_edit_name (edit.MessageUpdate e) = named.MessageUpdate
message_edit_name (edit.MessageDelete message) = named.MessageDelete
message_edit_name (edit.ReactionAdd body) = named.ReactionAdd
message_edit_name (edit.ReactionRemove body) = named.ReactionRemove
message_edit_name (edit.Typing e) = named.Typing

abbrev pub body_fields : MessageBody → List (List ℕ × Data)
body_fields body =
    (codes "content", string body.content) ∷ (codes "mentions", ids_data body.mentions)
    ∷ (codes "embeds", count body.embeds) ∷ (codes "attachments", count body.attachments)
    ∷ (codes "components", count body.components) ∷ []

abbrev pub message_create_fields : MessageCreate → List (List ℕ × Data)
message_create_fields e =
    (codes "message", id_data e.message) ∷ (codes "channel", id_data e.channel)
    ∷ (codes "author", id_data e.author) ∷ body_fields e.body

abbrev pub message_update_fields : MessageUpdate → List (List ℕ × Data)
message_update_fields e = (codes "message", id_data e.message) ∷ body_fields e.body

abbrev pub reaction_fields : ReactionBody → List (List ℕ × Data)
reaction_fields body =
    (codes "message", id_data body.message) ∷ (codes "user", id_data body.user)
    ∷ (codes "emoji", string body.emoji) ∷ []

abbrev pub typing_fields : Typing → List (List ℕ × Data)
typing_fields e =
    (codes "channel", id_data e.channel) ∷ (codes "user", id_data e.user) ∷ (codes "at", count e.at) ∷ []

abbrev pub message_edit_fields : MessageEdit → List (List ℕ × Data)
message_edit_fields (edit.MessageCreate e) = message_create_fields e
message_edit_fields (edit.MessageUpdate e) = message_update_fields e
message_edit_fields (edit.MessageDelete message) = (codes "message", id_data message) ∷ []
message_edit_fields (edit.ReactionAdd body) = reaction_fields body
message_edit_fields (edit.ReactionRemove body) = reaction_fields body
message_edit_fields (edit.Typing e) = typing_fields e
