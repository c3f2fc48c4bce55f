-- In which form an edit of messages, reactions or typing is told a viewer (Gateway, Message Content Intent).
use Rattle.std.specs.Prelude.{Bool, true, false, Option, Some, None, option_map, if◌then◌else◌}
use Rattle.guild_model.specs.Record.{Record}
use Rattle.message_edit.specs.declared.MessageEdit.{MessageEdit}
use Rattle.dispatch_types.specs.declared.viewer.Viewer.{Viewer}
use Rattle.dispatch_types.specs.declared.messages.MessageObject.{MessageObject}
use Rattle.dispatch_types.specs.declared.dispatch.Dispatch.{Dispatch}
use Rattle.dispatch_types.specs.declared.dispatch.Dispatch.TheVariants.{MessageCreate, MessageUpdate}
use Rattle.dispatch_types.specs.Kinds.{kind_of}
use Rattle.message_gate.specs.Redacted.{is_for, emptied}
use Rattle.message_gate.specs.Shows.{shows}
use Rattle.message_events.specs.declared.notes.MessageNote.{MessageNote}
use Rattle.message_events.specs.declared.forms.MessageForm.{MessageForm}
use Rattle.message_events.specs.declared.forms.MessageForm.TheVariants.{Hidden, Emptied, Whole}
use Rattle.message_events.specs.Dispatches.{About, message_whole}

-- whether all that a dispatch says is for the viewer: the content of a message is not for all
abbrev pub is_whole : Viewer → Dispatch → Bool
is_whole v (MessageCreate message) = is_for message v
is_whole v (MessageUpdate message) = is_for message v
is_whole v _ = true

abbrev pub form_by : Bool → Bool → MessageForm
form_by false is_whole = Hidden
form_by true true = Whole
form_by true false = Emptied

-- by whether the dispatch is shown to the viewer, and whether all of it is for the viewer
abbrev pub form_of : Record → Viewer → Option About → MessageForm
form_of s v None = Hidden
form_of s v (Some about) = form_by (shows s v about.channel (kind_of about.dispatch)) (is_whole v about.dispatch)

-- `s` is the record after the edit
abbrev pub message_form : Record → Viewer → MessageNote → MessageEdit → MessageForm
message_form s v note e = form_of s v (message_whole s note e)

-- a message with its content or without
abbrev pub content_if : Bool → MessageObject → MessageObject
content_if with_content message = if with_content then message else emptied message

-- a dispatch with the content of its message or without
abbrev pub told_with : Bool → Dispatch → Dispatch
told_with with_content (MessageCreate message) = MessageCreate (content_if with_content message)
told_with with_content (MessageUpdate message) = MessageUpdate (content_if with_content message)
told_with with_content d = d

abbrev pub told_by : Bool → Option About → Option Dispatch
told_by with_content told = option_map (λ (about : About). told_with with_content about.dispatch) told

-- what viewers of a form are told
abbrev pub in_form : MessageForm → Option About → Option Dispatch
in_form Hidden told = None
in_form Emptied told = told_by false told
in_form Whole told = told_by true told
