-- Viewers of one form are due the same.
use Rattle.std.proofs.Common.{◌≡◌, Bool, true, false, Option, Some, None, refl, sym, ◌∙◌}
use Rattle.guild_model.specs.declared.member.Member.{Member}
use Rattle.guild_model.specs.Record.{Record}
use Rattle.message_edit.specs.declared.MessageEdit.{MessageEdit}
use Rattle.dispatch_types.specs.declared.viewer.Viewer.{Viewer}
use Rattle.dispatch_types.specs.Serves.{served}
use Rattle.message_events.specs.declared.forms.MessageForm.{MessageForm}
use Rattle.message_events.specs.Notes.{message_note}
use Rattle.message_events.specs.Dispatches.{message_dispatches}
use Rattle.message_events.specs.Forms.{message_form}
use Rattle.message_events.proofs.Alike.{form-decides}
use Rattle.edit_apply.specs.declared.Edit.{Edit}
use Rattle.edit_apply.specs.declared.Edit.TheVariants as edit
use Rattle.whole_events.specs.declared.dispatches.Before.{Before}
use Rattle.whole_events.specs.declared.dispatches.Before.TheVariants.{Message}
use Rattle.edit_events.specs.declared.due.Was.{Was}
use Rattle.edit_events.specs.Due.{due_to}
use Rattle.edit_events.specs.Forms.{form_to, form_between, FormIsDue}
use Rattle.edit_events.specs.Was.{was_to}

-- one that is not served after the edit has none
pub formless : (after : Record) (v : Viewer) (was : Was) (e : Edit) → form_between after v was None e ≡ None
formless after v was (edit.Message e) = by_note was.note was.served
  where
    by_note : (note : Before) (b : Bool) → form_to after v (edit.Message e) note b None ≡ None
    by_note (Message note) true = refl
    by_note (Message note) false = refl
    by_note _ b = refl
formless after v was _ = refl

-- one with a form is due the dispatches of the edit
formed : (s after : Record) (v : Viewer) (e : MessageEdit) (f : MessageForm) (o o' : Option Member)
    → form_between after v (was_to s o (edit.Message e)) o' (edit.Message e) ≡ Some f
    → (message_form after v (message_note s e) e ≡ f)
    × (due_to s o after o' v (edit.Message e) ≡ message_dispatches after v (message_note s e) e)
formed s after v e f (Some me) (Some me') is = (cc, refl)
formed s after v e f (Some me) None is = absurd (cc)
formed s after v e f None o' is = absurd (cc)

pub form-is-due : FormIsDue
form-is-due s after (edit.Message e) v w f is also =
    let a = formed s after v e f (served v s) (served v after) is in
    let b = formed s after w e f (served w s) (served w after) also in
    a.1 ∙ (form-decides after v w (message_note s e) e (a.0 ∙ sym b.0) ∙ sym b.1)
form-is-due s after _ v w f is also = absurd (cc)
