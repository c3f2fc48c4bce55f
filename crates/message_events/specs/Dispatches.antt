-- What the edits of messages, reactions and typing owe to a viewer that is served before and after them
-- (Gateway Events, Message Create to Message Reaction Remove, Typing Start).
use Rattle.std.specs.Prelude.{ℕ, ◌/◌, List, [], ◌∷◌, flat_map, Option, Some, None, option_map, if◌then◌else◌}
use Rattle.std.specs.Option.{option_to_list}
use Rattle.collections.specs.ById.{find_id}
use Rattle.guild_model.specs.declared.message.MessageHead.{MessageHead}
use Rattle.guild_model.specs.declared.user.User.{User}
use Rattle.guild_model.specs.Record.{Record, member_id}
use Rattle.guild_model.specs.Heads.{find_head}
use Rattle.message_edit.specs.declared.body.MessageBody.{MessageBody}
use Rattle.message_edit.specs.declared.message_create.MessageCreate.{MessageCreate}
use Rattle.message_edit.specs.declared.message_update.MessageUpdate.{MessageUpdate}
use Rattle.message_edit.specs.declared.reaction.ReactionBody.{ReactionBody}
use Rattle.message_edit.specs.declared.typing.Typing.{Typing}
use Rattle.message_edit.specs.declared.MessageEdit.{MessageEdit}
use Rattle.message_edit.specs.declared.MessageEdit.TheVariants as edit
use Rattle.message_edit.specs.Messages.{member_user}
use Rattle.dispatch_types.specs.declared.viewer.Viewer.{Viewer}
use Rattle.dispatch_types.specs.declared.messages.MessageObject.{MessageObject}
use Rattle.dispatch_types.specs.declared.messages.Reaction.{Reaction}
use Rattle.dispatch_types.specs.declared.dispatch.Dispatch.{Dispatch}
use Rattle.dispatch_types.specs.declared.dispatch.Dispatch.TheVariants as dispatch
use Rattle.dispatch_types.specs.Kinds.{kind_of}
use Rattle.message_gate.specs.Redacted.{redacted}
use Rattle.message_gate.specs.Shows.{shows}
use Rattle.message_events.specs.declared.notes.MessageNote.{MessageNote}
use Rattle.message_events.specs.declared.notes.MessageNote.TheVariants.{Nothing, Stood}

-- a dispatch, and the channel or thread that it is about
pub record About : Type 0 where
  pub channel : ℕ
  pub dispatch : Dispatch

-- of the guild of this id: a message that is deleted, of which was noted where it stood
abbrev pub deleted : ℕ → MessageNote → ℕ → Option About
deleted guild Nothing message = None
deleted guild (Stood channel) message =
    Some (record { channel = channel; dispatch = dispatch.MessageDelete (record { guild = guild; channel = channel; id = message }) })

-- and a user that types
abbrev pub typed : ℕ → Typing → About
typed guild edit = record {
  channel = edit.channel;
  dispatch = dispatch.TypingStart (record { guild = guild; channel = edit.channel; user = edit.user; seconds = edit.at / 1000 });
}

-- `s` is the record after the edit
module _ (s : Record) where
  -- a user as the member that it is
  abbrev pub user_of : ℕ → Option User
  user_of user = option_map member_user (find_id member_id user s.members)

  -- the mentioned users as the members that they are, in the order of the message, repeats too
  abbrev pub mentioned : List ℕ → List User
  mentioned users = flat_map (λ user. option_to_list (user_of user)) users

  abbrev pub message_of : ℕ → ℕ → MessageBody → User → MessageObject
  message_of message channel body author = record {
    guild = s.id;
    channel = channel;
    id = message;
    author = author;
    content = body.content;
    mentions = mentioned body.mentions;
    embeds = body.embeds;
    attachments = body.attachments;
    components = body.components;
  }

  abbrev pub reaction_of : ReactionBody → MessageHead → Reaction
  reaction_of reaction head = record { guild = s.id; channel = head.channel; message = head.id; user = reaction.user; emoji = reaction.emoji }

  -- a message that is created, by its author as the member is; one that changes, by its author as it was created
  abbrev pub created : MessageCreate → User → About
  created edit author = record { channel = edit.channel; dispatch = dispatch.MessageCreate (message_of edit.message edit.channel edit.body author) }

  abbrev pub updated : MessageUpdate → MessageHead → About
  updated edit head = record { channel = head.channel; dispatch = dispatch.MessageUpdate (message_of head.id head.channel edit.body head.author) }

  abbrev pub reacted : ReactionBody → MessageHead → About
  reacted reaction head = record { channel = head.channel; dispatch = dispatch.MessageReactionAdd (reaction_of reaction head) }

  abbrev pub unreacted : ReactionBody → MessageHead → About
  unreacted reaction head = record { channel = head.channel; dispatch = dispatch.MessageReactionRemove (reaction_of reaction head) }

  -- the dispatch of an edit with all that it says, by what was noted before it
  abbrev pub message_whole : MessageNote → MessageEdit → Option About
  message_whole note (edit.MessageCreate e) = option_map (created e) (user_of e.author)
  message_whole note (edit.MessageUpdate e) = option_map (updated e) (find_head e.message s.messages)
  message_whole note (edit.MessageDelete message) = deleted s.id note message
  message_whole note (edit.ReactionAdd reaction) = option_map (reacted reaction) (find_head reaction.message s.messages)
  message_whole note (edit.ReactionRemove reaction) = option_map (unreacted reaction) (find_head reaction.message s.messages)
  message_whole note (edit.Typing e) = Some (typed s.id e)

module _ (v : Viewer) where
  -- a dispatch as the viewer is told it: a message may be without its content
  abbrev pub told_to : Dispatch → Dispatch
  told_to (dispatch.MessageCreate message) = dispatch.MessageCreate (redacted message v)
  told_to (dispatch.MessageUpdate message) = dispatch.MessageUpdate (redacted message v)
  told_to d = d

  abbrev pub about_to : About → About
  about_to about = record { channel = about.channel; dispatch = told_to about.dispatch }

module _ (s : Record) (v : Viewer) where
  -- the dispatch of an edit as the viewer is told it, by what was noted before it
  abbrev pub message_told : MessageNote → MessageEdit → Option About
  message_told note e = option_map (about_to v) (message_whole s note e)

  -- a dispatch exactly if it is shown by the record after
  abbrev pub shown : Option About → List Dispatch
  shown None = []
  shown (Some about) = if shows s v about.channel (kind_of about.dispatch) then about.dispatch ∷ [] else []

  abbrev pub message_dispatches : MessageNote → MessageEdit → List Dispatch
  message_dispatches note e = shown (message_told note e)
