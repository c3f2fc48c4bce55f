-- What is due to one viewer serves for all of its form.
use Rattle.std.proofs.Common.{◌≡◌, Some, sym, ap, subst, ◌∙◌}
use Rattle.std.specs.Prelude.{slice_get}
use Rattle.guild_model.specs.Record.{Record}
use Rattle.dispatch_types.specs.Serves.{served}
use Rattle.edit_apply.specs.Edits.{applied}
use Rattle.edit_events.specs.Due.{due}
use Rattle.edit_events.specs.Forms.{form_between, form_after}
use Rattle.edit_events.specs.Was.{was_of}
use Rattle.edit_events.specs.declared.due.Was.{Was}
use Rattle.worker_core.specs.declared.form_index.FormIndex.{FormIndex}
use Rattle.worker_core.specs.Forms.{AreDue}
use Rattle.worker_core.proofs.Forms.{due_longer, due_kept}
use Rattle.worker_core.proofs.due.DueDispatches.index_for.Goals as goal

pub returns-clause-due : goal.returns-clause-due
returns-clause-due c s noted is accepted are =
    let e = c.args.entry.now in
    let g = c.args.replica.now.guild in
    let v = c.args.viewer.now in
    let told = c.index_of.new.told.items in
    let index = c.in_ok-index.index in
    let is_due : c.in_ok-due.due.items ≡ due s e v = c.in_ok-due.ensures.due s noted is accepted in
    let formed : c.form_for-form.result ≡ form_after s (applied s e) e v =
    c.form_for-form.ensures ∙ (ap (λ (w : Was). form_between g v w (served v g) e) noted
    ∙ ap (λ (h : Record). form_between h v (was_of s v e) (served v h) e) is) in
    let here : slice_get told index ≡ Some (due s e v) = c.in_ok-index.ensures.found ∙ ap (λ ds. Some ds) is_due in
    let longer = due_longer s e c.args.self.now.told.items told c.args.self.now.forms c.in_ok-index.ensures.longer are in
    (here, subst (λ (indexes : FormIndex). AreDue s e told indexes) (sym c.keep.ensures) (due_kept s e accepted told c.args.self.now.forms index v here longer c.form_for-form.result formed))
