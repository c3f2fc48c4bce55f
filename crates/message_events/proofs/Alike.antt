-- What a viewer is due is what viewers of its form are told, so that viewers of one form are due the same.
use Rattle.std.proofs.Common.{◌≡◌, ℕ, Bool, true, false, [], ◌∷◌, Option, Some, None, if◌then◌else◌, refl, sym, ap, ◌∙◌}
use Rattle.std.specs.Prelude.{option_map}
use Rattle.std.specs.Option.{option_to_list}
use Rattle.guild_model.specs.Record.{Record}
use Rattle.intent_set.specs.declared.kind.Kind.TheVariants as kind
use Rattle.message_edit.specs.declared.MessageEdit.{MessageEdit}
use Rattle.dispatch_types.specs.declared.viewer.Viewer.{Viewer}
use Rattle.dispatch_types.specs.declared.dispatch.Dispatch.{Dispatch}
use Rattle.dispatch_types.specs.declared.dispatch.Dispatch.TheVariants.{MessageCreate, MessageUpdate}
use Rattle.dispatch_types.specs.Kinds.{kind_of}
use Rattle.message_gate.specs.Redacted.{is_for}
use Rattle.message_gate.specs.Shows.{shows}
use Rattle.message_events.specs.declared.notes.MessageNote.{MessageNote}
use Rattle.message_events.specs.Dispatches.{About, message_whole, told_to, about_to, shown, message_dispatches}
use Rattle.message_events.specs.Forms.{is_whole, form_by, form_of, message_form, told_with, in_form}
use Rattle.message_events.specs.Law.{FormDecides}

-- a dispatch that is shown or not, and whole or not
told-by : (b c : Bool) (channel : ℕ) (d : Dispatch) → (if b then told_with c d ∷ [] else []) ≡ option_to_list (in_form (form_by b c) (Some (record { channel = channel; dispatch = d })))
told-by false c channel d = refl
told-by true true channel d = refl
told-by true false channel d = refl

module _ (s : Record) (v : Viewer) where
  shown-in-form : (channel : ℕ) (d : Dispatch) → (if shows s v channel (kind_of (told_to v d)) then told_to v d ∷ [] else [])
      ≡ option_to_list (in_form (form_by (shows s v channel (kind_of d)) (is_whole v d)) (Some (record { channel = channel; dispatch = d })))
  shown-in-form channel (MessageCreate m) = told-by (shows s v channel kind.MessageCreate) (is_for m v) channel (MessageCreate m)
  shown-in-form channel (MessageUpdate m) = told-by (shows s v channel kind.MessageUpdate) (is_for m v) channel (MessageUpdate m)
  shown-in-form channel d = told-by (shows s v channel (kind_of d)) true channel d

  about-in-form : (o : Option About) → shown s v (option_map (about_to v) o) ≡ option_to_list (in_form (form_of s v o) o)
  about-in-form None = refl
  about-in-form (Some about) = shown-in-form about.channel about.dispatch

  pub dispatches_in_form : (note : MessageNote) (e : MessageEdit) → message_dispatches s v note e ≡ option_to_list (in_form (message_form s v note e) (message_whole s note e))
  dispatches_in_form note e = about-in-form (message_whole s note e)

pub form-decides : FormDecides
form-decides s v w note e same =
    dispatches_in_form s v note e ∙ (ap (λ f. option_to_list (in_form f (message_whole s note e))) same ∙ sym (dispatches_in_form s w note e))
