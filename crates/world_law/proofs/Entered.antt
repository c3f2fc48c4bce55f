-- One entry more in the model: what each session is told, and the record after it.
use Rattle.std.proofs.Common.{◌≡◌, ℕ, ◌+◌, List, [], ◌∷◌, ◌++◌, if◌then◌else◌, length, sym, ap, ◌∙◌}
use Rattle.guild_model.specs.Record.{Record, closed}
use Rattle.dispatch_types.specs.declared.dispatch.Dispatch.{Dispatch}
use Rattle.edit_apply.specs.Edits.{after}
use Rattle.edit_apply.specs.declared.Edit.{Edit}
use Rattle.edit_events.specs.Due.{due}
use Rattle.session_core.specs.declared.reply.Mark.TheVariants.{Entry}
use Rattle.session_core.specs.State.{Session, is_live}
use Rattle.world_law.specs.Model.{Seen, cursors, record_of, seen_with}
use Rattle.world_law.specs.Sent.{Sent, SentDispatch, told}
use Rattle.world_law.proofs.Folds.{same_id, state_join}

module _ (seen : Seen) (g : ℕ) (e : Edit) where
  abbrev pub entry_due : Session Sent → List Dispatch
  entry_due x = due (record_of seen g) e x.viewer

  abbrev pub batch : Session Sent → List SentDispatch
  batch x = told (Entry g (length (seen g) + 1)) (cursors seen) (cursors (seen_with seen g e)) (entry_due x)

  abbrev pub told_entry : Session Sent → Session Sent
  told_entry x = if is_live x.condition then record x { sent = record x.sent { told = x.sent.told ++ batch x } } else x

  pub state_entered : record_of (seen_with seen g e) g ≡ after (record_of seen g) e
  state_entered = simp (same_id g) (state_join (closed g) (seen g) (e ∷ []))

  -- the record that a look goes on with
  pub next_record : (s : Record) → s ≡ record_of seen g → after s e ≡ record_of (seen_with seen g e) g
  next_record s is = ap (λ r. after r e) is ∙ sym state_entered
