-- What has to be known of the record before an edit of messages.
use Rattle.std.specs.Prelude.{Option, Some, None}
use Rattle.guild_model.specs.declared.message.MessageHead.{MessageHead}
use Rattle.guild_model.specs.Record.{Record}
use Rattle.guild_model.specs.Heads.{find_head}
use Rattle.message_edit.specs.declared.MessageEdit.{MessageEdit}
use Rattle.message_edit.specs.declared.MessageEdit.TheVariants.{MessageDelete}
use Rattle.message_events.specs.declared.notes.MessageNote.{MessageNote}
use Rattle.message_events.specs.declared.notes.MessageNote.TheVariants.{Nothing, Stood}

abbrev pub note_of : Option MessageHead → MessageNote
note_of None = Nothing
note_of (Some head) = Stood head.channel

-- where a message stood that is deleted
abbrev pub message_note : Record → MessageEdit → MessageNote
message_note s (MessageDelete message) = note_of (find_head message s.messages)
message_note s _ = Nothing
