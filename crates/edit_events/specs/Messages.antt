-- Who is told of messages, reactions and typing (Gateway, Gateway Intents; Permissions, VIEW_CHANNEL).
use Rattle.std.specs.Prelude.{◌≡◌, true, is_some}
use Rattle.guild_model.specs.Record.{Record}
use Rattle.dispatch_types.specs.declared.viewer.Viewer.{Viewer}
use Rattle.message_edit.specs.declared.MessageEdit.{MessageEdit}
use Rattle.message_events.specs.Notes.{message_note}
use Rattle.message_events.specs.Dispatches.{message_told, shown}
use Rattle.edit_apply.specs.declared.Edit.TheVariants as edit
use Rattle.edit_apply.specs.Edits.{accepts, after}
use Rattle.edit_events.specs.Due.{due}

-- an accepted edit of messages has one dispatch, which is due exactly where it is shown by the record
-- after that very edit: where the viewer is served, asks for it and sees its channel or thread
abbrev pub MessagesAreShown : Type 0
MessagesAreShown = (s : Record) (e : MessageEdit) (v : Viewer) → accepts s (edit.Message e) ≡ true
    → (is_some (message_told (after s (edit.Message e)) v (message_note s e) e) ≡ true)
    × (due s (edit.Message e) v ≡ shown (after s (edit.Message e)) v (message_told (after s (edit.Message e)) v (message_note s e) e))
