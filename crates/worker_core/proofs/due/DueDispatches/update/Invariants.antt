-- what is due to the viewers so far, and to those of their forms
use Rattle.std.proofs.Common.{◌≡◌, true, map, take}
use Rattle.guild_model.specs.Record.{Record}
use Rattle.dispatch_types.specs.declared.viewer.Viewer.{Viewer}
use Rattle.edit_apply.specs.Edits.{accepts, applied}
use Rattle.edit_events.specs.Due.{due}
use Rattle.edit_events.specs.Was.{was_of}
use Rattle.worker_core.proofs.due.DueDispatches.update.Given as goal
use Rattle.worker_core.specs.Forms.{AreDue}
use Rattle.worker_core.specs.Recipients.{Picks}

abbrev pub invariant-loop-index : goal.invariant-loop-index
invariant-loop-index l = (s : Record) → Picks l.notes.noted.items l.notes.whose.items (map (λ (v : Viewer). was_of s v l.entry) l.recipients.viewers.items) → l.replica.guild ≡ applied s l.entry → accepts s l.entry ≡ true
    → Picks l.self.told.items l.self.whose.items (map (due s l.entry) (take l.index l.recipients.viewers.items)) × AreDue s l.entry l.self.told.items l.self.forms
