-- The edits of messages, reactions and typing: what is refused, and what becomes of the record.
use Rattle.std.specs.Prelude.{Option}
use Rattle.guild_model.specs.declared.verdict.Verdict.{Verdict}
use Rattle.guild_model.specs.Record.{Record}
use Rattle.message_edit.specs.declared.MessageEdit.{MessageEdit}
use Rattle.message_edit.specs.declared.MessageEdit.TheVariants.{MessageCreate, MessageUpdate, MessageDelete, ReactionAdd, ReactionRemove, Typing}
use Rattle.message_edit.specs.Messages.{message_create_verdict, message_created, message_update_verdict, message_updated, message_delete_verdict, message_deleted, reaction_verdict, typing_verdict}

-- why an edit of an open guild is refused, if it is
abbrev pub message_verdict : Record → MessageEdit → Option Verdict
message_verdict g (MessageCreate edit) = message_create_verdict g edit
message_verdict g (MessageUpdate edit) = message_update_verdict g edit
message_verdict g (MessageDelete message) = message_delete_verdict g message
message_verdict g (ReactionAdd reaction) = reaction_verdict g reaction
message_verdict g (ReactionRemove reaction) = reaction_verdict g reaction
message_verdict g (Typing edit) = typing_verdict g edit

-- the record after an edit that is not refused: it keeps no reactions, and not who types
abbrev pub message_applied : Record → MessageEdit → Record
message_applied g (MessageCreate edit) = message_created g edit
message_applied g (MessageUpdate edit) = message_updated g edit
message_applied g (MessageDelete message) = message_deleted g message
message_applied g (ReactionAdd reaction) = g
message_applied g (ReactionRemove reaction) = g
message_applied g (Typing edit) = g
