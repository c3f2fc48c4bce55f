-- How an edit of messages is told a viewer that is served before and after it (Gateway Events, Receive
-- Events), and who is due the same.
use Rattle.std.specs.Prelude.{◌≡◌, Bool, true, Option, Some, None}
use Rattle.guild_model.specs.declared.member.Member.{Member}
use Rattle.guild_model.specs.Record.{Record}
use Rattle.dispatch_types.specs.declared.viewer.Viewer.{Viewer}
use Rattle.dispatch_types.specs.Serves.{served}
use Rattle.message_events.specs.declared.forms.MessageForm.{MessageForm}
use Rattle.message_events.specs.Forms.{message_form}
use Rattle.edit_apply.specs.declared.Edit.{Edit}
use Rattle.edit_apply.specs.declared.Edit.TheVariants as edit
use Rattle.whole_events.specs.declared.dispatches.Before.{Before}
use Rattle.whole_events.specs.declared.dispatches.Before.TheVariants.{Message}
use Rattle.edit_events.specs.declared.due.Was.{Was}
use Rattle.edit_events.specs.Due.{due_to}
use Rattle.edit_events.specs.Was.{was_of}

abbrev pub form_to : Record → Viewer → Edit → Before → Bool → Option Member → Option MessageForm
form_to after v (edit.Message e) (Message note) true (Some me) = Some (message_form after v note e)
form_to after v _ _ _ _ = None

-- by what was noted before the edit and the record after it
abbrev pub form_between : Record → Viewer → Was → Option Member → Edit → Option MessageForm
form_between after v was me e = form_to after v e was.note was.served me

-- the form of an edit of the record before, with the record after it
abbrev pub form_after : Record → Record → Edit → Viewer → Option MessageForm
form_after s after e v = form_between after v (was_of s v e) (served v after) e

-- viewers of one form are due the same
abbrev pub FormIsDue : Type 0
FormIsDue = (s after : Record) (e : Edit) (v w : Viewer) (f : MessageForm)
    → form_after s after e v ≡ Some f → form_after s after e w ≡ Some f
    → due_to s (served v s) after (served v after) v e ≡ due_to s (served w s) after (served w after) w e
