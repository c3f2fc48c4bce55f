-- A viewer that is not served is shown no edit of messages.
use Rattle.std.proofs.Common.{◌≡◌, Option, Some, None, refl, ap}
use Rattle.guild_model.specs.Record.{Record}
use Rattle.message_edit.specs.declared.MessageEdit.{MessageEdit}
use Rattle.dispatch_types.specs.declared.viewer.Viewer.{Viewer}
use Rattle.dispatch_types.specs.Kinds.{kind_of}
use Rattle.dispatch_types.specs.Serves.{served}
use Rattle.message_gate.proofs.ByMember.{unshown}
use Rattle.message_events.specs.declared.notes.MessageNote.{MessageNote}
use Rattle.message_events.specs.declared.forms.MessageForm.TheVariants.{Hidden}
use Rattle.message_events.specs.Dispatches.{About, message_whole}
use Rattle.message_events.specs.Forms.{is_whole, form_by, form_of, message_form}

about-hidden : (s : Record) (v : Viewer) (o : Option About) → served v s ≡ None → form_of s v o ≡ Hidden
about-hidden s v None away = refl
about-hidden s v (Some about) away = ap (λ b. form_by b (is_whole v about.dispatch)) (unshown s v about.channel (kind_of about.dispatch) away)

pub hidden_unserved : (s : Record) (v : Viewer) (note : MessageNote) (e : MessageEdit) → served v s ≡ None → message_form s v note e ≡ Hidden
hidden_unserved s v note e away = about-hidden s v (message_whole s note e) away
