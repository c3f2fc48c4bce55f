-- One viewer more.
use Rattle.std.proofs.Common.{◌<◌, List, [], ◌∷◌, ◌++◌, ℕ, length, ap, ◌∙◌, arith}
use Rattle.std.specs.Prelude.{option_map}
use Rattle.dispatch_types.specs.declared.viewer.Viewer.{Viewer}
use Rattle.edit_events.specs.Was.{was_of}
use Rattle.worker_core.proofs.Picking.{item_at, picks_next}
use Rattle.worker_core.proofs.notes.Notes.update.Goals as goal

pub loop-index-preserved : goal.loop-index-preserved
loop-index-preserved c =
    let vs : List Viewer = c.args.recipients.now.viewers.items in
    let i = c.loop-index.index in
    let note_of = λ (v : Viewer). was_of c.args.replica.now.guild v c.args.entry.now in
    let lt : i < length vs = omega arith in
    let here = item_at vs i lt in
    let pushed = c.in_ok-push.ensures.items ∙ ap (λ (ks : List ℕ). ks ++ c.in_ok-at.at ∷ []) c.index_for.ensures.whose in
    picks_next note_of vs i here c.loop-index.self.noted.items c.index_for.new.self.noted.items c.loop-index.self.whose.items c.push.new.self.items c.in_ok-at.at lt
    c.loop-index.invariant c.in_ok-at.ensures.longer pushed (c.in_ok-at.ensures.found c.loop-index.invariant ∙ ap (option_map note_of) here.found)
