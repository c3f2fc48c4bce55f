-- Messages that are created, changed and deleted (Message Resource, Create, Edit and Delete Message),
-- reactions (Create Reaction) and typing (Channels Resource, Trigger Typing Indicator).
use Rattle.std.specs.Prelude.{ℕ, [], ◌∷◌, Option, Some, None, option_map}
use Rattle.collections.specs.ById.{find_id}
use Rattle.guild_model.specs.declared.member.Member.{Member}
use Rattle.guild_model.specs.declared.user.User.{User}
use Rattle.guild_model.specs.declared.message.MessageHead.{MessageHead}
use Rattle.guild_model.specs.declared.verdict.Verdict.{Verdict}
use Rattle.guild_model.specs.declared.verdict.Verdict.TheVariants.{IdTaken}
use Rattle.guild_model.specs.Record.{Record, member_id}
use Rattle.guild_model.specs.Heads.{has_head, arrived, without_head, mentioning}
use Rattle.guild_model.specs.Tests.{refused_if, first_of, too_long, unknown_member, unknown_message}
use Rattle.message_edit.specs.declared.message_create.MessageCreate.{MessageCreate}
use Rattle.message_edit.specs.declared.message_update.MessageUpdate.{MessageUpdate}
use Rattle.message_edit.specs.declared.reaction.ReactionBody.{ReactionBody}
use Rattle.message_edit.specs.declared.typing.Typing.{Typing}
use Rattle.message_edit.specs.Channels.{takes_no_words, unknown_mention}

-- message_create
abbrev pub taken : Record → ℕ → Option Verdict
taken g message = refused_if (has_head message g.messages) IdTaken

abbrev pub message_create_verdict : Record → MessageCreate → Option Verdict
message_create_verdict g edit = first_of (
    takes_no_words g edit.channel
    ∷ unknown_member g edit.author
    ∷ unknown_mention g edit.body.mentions
    ∷ taken g edit.message
    ∷ too_long 2000 edit.body.content
    ∷ [])

abbrev pub member_user : Member → User
member_user m = m.user

abbrev pub with_head : Record → MessageHead → Record
with_head g head = record g { messages = arrived head g.messages }

-- what is kept of a new message, with its author as the member is when the message is created
abbrev pub new_head : MessageCreate → User → MessageHead
new_head edit author = record { id = edit.message; channel = edit.channel; author = author; mentions = edit.body.mentions }

abbrev pub written_by : Record → MessageCreate → Option User → Record
written_by g edit None = g
written_by g edit (Some author) = with_head g (new_head edit author)

abbrev pub message_created : Record → MessageCreate → Record
message_created g edit = written_by g edit (option_map member_user (find_id member_id edit.author g.members))

-- message_update
abbrev pub message_update_verdict : Record → MessageUpdate → Option Verdict
message_update_verdict g edit = first_of (
    unknown_message g edit.message
    ∷ unknown_mention g edit.body.mentions
    ∷ too_long 2000 edit.body.content
    ∷ [])

abbrev pub message_updated : Record → MessageUpdate → Record
message_updated g edit = record g { messages = mentioning edit.message edit.body.mentions g.messages }

-- message_delete
abbrev pub message_delete_verdict : Record → ℕ → Option Verdict
message_delete_verdict g message = unknown_message g message

abbrev pub message_deleted : Record → ℕ → Record
message_deleted g message = record g { messages = without_head message g.messages }

-- reaction_add and reaction_remove
abbrev pub reaction_verdict : Record → ReactionBody → Option Verdict
reaction_verdict g reaction = first_of (
    unknown_message g reaction.message
    ∷ unknown_member g reaction.user
    ∷ too_long 32 reaction.emoji
    ∷ [])

-- typing
abbrev pub typing_verdict : Record → Typing → Option Verdict
typing_verdict g edit = first_of (takes_no_words g edit.channel ∷ unknown_member g edit.user ∷ [])
