-- the notes for the viewers so far
use Rattle.std.proofs.Common.{map, take}
use Rattle.dispatch_types.specs.declared.viewer.Viewer.{Viewer}
use Rattle.edit_events.specs.Was.{was_of}
use Rattle.worker_core.specs.Recipients.{Picks}
use Rattle.worker_core.proofs.notes.Notes.update.Given as goal

abbrev pub invariant-loop-index : goal.invariant-loop-index
invariant-loop-index l = Picks l.self.noted.items l.self.whose.items (map (λ (v : Viewer). was_of l.replica.guild v l.entry) (take l.index l.recipients.viewers.items))
