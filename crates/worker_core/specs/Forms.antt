-- What is due to viewers, by the form in which an edit of messages is told them.
use Rattle.std.specs.Prelude.{◌≡◌, ℕ, List, Option, Some, None, slice_get}
use Rattle.guild_model.specs.Record.{Record}
use Rattle.dispatch_types.specs.declared.viewer.Viewer.{Viewer}
use Rattle.dispatch_types.specs.declared.dispatch.Dispatch.{Dispatch}
use Rattle.message_events.specs.declared.forms.MessageForm.{MessageForm}
use Rattle.message_events.specs.declared.forms.MessageForm.TheVariants.{Hidden, Emptied, Whole}
use Rattle.edit_apply.specs.declared.Edit.{Edit}
use Rattle.edit_apply.specs.Edits.{applied}
use Rattle.edit_events.specs.Due.{due}
use Rattle.edit_events.specs.Forms.{form_after}
use Rattle.worker_core.specs.declared.form_index.FormIndex.{FormIndex}

abbrev pub index_of_form : FormIndex → Option MessageForm → Option ℕ
index_of_form indexes None = None
index_of_form indexes (Some Hidden) = indexes.hidden
index_of_form indexes (Some Emptied) = indexes.emptied
index_of_form indexes (Some Whole) = indexes.whole

abbrev pub with_index : FormIndex → Option MessageForm → ℕ → FormIndex
with_index indexes None index = indexes
with_index indexes (Some Hidden) index = record indexes { hidden = Some index }
with_index indexes (Some Emptied) index = record indexes { emptied = Some index }
with_index indexes (Some Whole) index = record indexes { whole = Some index }

-- what stands at the index of a form is due to every viewer of that form
abbrev pub AreDue : Record → Edit → List (List Dispatch) → FormIndex → Type 0
AreDue s e told indexes = (f : MessageForm) (index : ℕ) (v : Viewer)
    → index_of_form indexes (Some f) ≡ Some index → form_after s (applied s e) e v ≡ Some f → slice_get told index ≡ Some (due s e v)
