-- What is due to viewers by their forms.
use Rattle.std.proofs.Common.{◌≡◌, ℕ, true, List, Option, Some, None, sym, ap, subst, ◌∙◌}
use Rattle.std.specs.Prelude.{slice_get}
use Rattle.guild_model.specs.Record.{Record}
use Rattle.dispatch_types.specs.declared.viewer.Viewer.{Viewer}
use Rattle.dispatch_types.specs.declared.dispatch.Dispatch.{Dispatch}
use Rattle.message_events.specs.declared.forms.MessageForm.{MessageForm}
use Rattle.message_events.specs.declared.forms.MessageForm.TheVariants.{Hidden, Emptied, Whole}
use Rattle.edit_apply.specs.declared.Edit.{Edit}
use Rattle.edit_apply.specs.Edits.{accepts, applied}
use Rattle.edit_events.specs.Due.{due}
use Rattle.edit_events.specs.Forms.{form_after}
use Rattle.edit_events.proofs.SameForms.{form-is-due}
use Rattle.worker_core.specs.declared.form_index.FormIndex.{FormIndex}
use Rattle.worker_core.specs.Forms.{AreDue, index_of_form, with_index}
use Rattle.worker_core.specs.Recipients.{IsLonger}
use Rattle.worker_core.proofs.Looking.{due_accepted}
use Rattle.worker_core.proofs.Picking.{more_at}

module _ (s : Record) (e : Edit) where
  -- what stands in a list stands in a longer one
  pub due_longer : (old new : List (List Dispatch)) (indexes : FormIndex) → IsLonger old new → AreDue s e old indexes → AreDue s e new indexes
  due_longer old new indexes longer are f index v at is = subst (λ (ds : List (List Dispatch)). slice_get ds index ≡ Some (due s e v)) (sym longer.1) (more_at old longer.0 index (due s e v) (are f index v at is))

  -- viewers of one form are due the same
  same-due : accepts s e ≡ true → (f : MessageForm) (v w : Viewer) → form_after s (applied s e) e v ≡ Some f → form_after s (applied s e) e w ≡ Some f → due s e v ≡ due s e w
  same-due accepted f v w is also = sym (due_accepted s e v accepted) ∙ (form-is-due s (applied s e) e v w f is also ∙ due_accepted s e w accepted)

  module _ (accepted : accepts s e ≡ true) (told : List (List Dispatch)) (indexes : FormIndex) (index : ℕ) (v : Viewer) (here : slice_get told index ≡ Some (due s e v)) (are : AreDue s e told indexes) where
    there : (f : MessageForm) (at : ℕ) (w : Viewer) → form_after s (applied s e) e v ≡ Some f → Some index ≡ Some at → form_after s (applied s e) e w ≡ Some f → slice_get told at ≡ Some (due s e w)
    there f at w is found also = let same : index ≡ at = cc in ap (slice_get told) (sym same) ∙ (here ∙ ap (λ ds. Some ds) (same-due accepted f v w is also))

    kept-for : (f g : MessageForm) (at : ℕ) (w : Viewer) → form_after s (applied s e) e v ≡ Some f → index_of_form (with_index indexes (Some f) index) (Some g) ≡ Some at
        → form_after s (applied s e) e w ≡ Some g → slice_get told at ≡ Some (due s e w)
    kept-for Hidden Hidden at w is found also = there Hidden at w is found also
    kept-for Hidden Emptied at w is found also = are Emptied at w found also
    kept-for Hidden Whole at w is found also = are Whole at w found also
    kept-for Emptied Hidden at w is found also = are Hidden at w found also
    kept-for Emptied Emptied at w is found also = there Emptied at w is found also
    kept-for Emptied Whole at w is found also = are Whole at w found also
    kept-for Whole Hidden at w is found also = are Hidden at w found also
    kept-for Whole Emptied at w is found also = are Emptied at w found also
    kept-for Whole Whole at w is found also = there Whole at w is found also

    -- the index of what one viewer is due serves for all of its form
    pub due_kept : (form : Option MessageForm) → form ≡ form_after s (applied s e) e v → AreDue s e told (with_index indexes form index)
    due_kept None is = are
    due_kept (Some f) is = λ g at w found also. kept-for f g at w (sym is) found also
