-- What a client holds after it is told what an edit of messages owes, and who is due the same.
use Rattle.std.specs.Prelude.{◌≡◌}
use Rattle.guild_model.specs.declared.member.Member.{Member}
use Rattle.guild_model.specs.Record.{Record}
use Rattle.dispatch_types.specs.declared.viewer.Viewer.{Viewer}
use Rattle.dispatch_types.specs.Fold.{Held, fold_from}
use Rattle.message_edit.specs.declared.MessageEdit.{MessageEdit}
use Rattle.message_edit.specs.MessageEdits.{message_applied}
use Rattle.event_views.specs.Has.{Has}
use Rattle.message_events.specs.declared.notes.MessageNote.{MessageNote}
use Rattle.message_events.specs.Notes.{message_note}
use Rattle.message_events.specs.Dispatches.{message_dispatches}
use Rattle.message_events.specs.Forms.{message_form}

-- a client that holds a member's view holds its view of the record after the edit
abbrev pub MessageEditKeeps : Type 0
MessageEditKeeps = (s : Record) (v : Viewer) (h : Held) (me : Member) (e : MessageEdit)
    → Has s v me h → Has (message_applied s e) v me (fold_from v.intents s.id h (message_dispatches (message_applied s e) v (message_note s e) e))

-- viewers of one form are due the same
abbrev pub FormDecides : Type 0
FormDecides = (s : Record) (v w : Viewer) (note : MessageNote) (e : MessageEdit)
    → message_form s v note e ≡ message_form s w note e → message_dispatches s v note e ≡ message_dispatches s w note e
