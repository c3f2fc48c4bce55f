-- The note that an earlier viewer has, or one more.
use Rattle.std.proofs.Common.{◌≡◌, List, [], ◌∷◌, ◌++◌, Some, sym, ap, ◌∙◌}
use Rattle.std.specs.Prelude.{option_map, slice_get}
use Rattle.std.proofs.lemmas.Option.{get_or_from_slice_get}
use Rattle.dispatch_types.specs.declared.viewer.Viewer.{Viewer}
use Rattle.edit_events.specs.Was.{was_of}
use Rattle.edit_events.specs.declared.due.Was.{Was}
use Rattle.worker_core.proofs.Noting.{noted_for}
use Rattle.worker_core.proofs.Picking.{item_at}
use Rattle.worker_core.proofs.Telling.{get_at}
use Rattle.worker_core.proofs.notes.Notes.index_for.Goals as goal

pub returns-in-Some-clause-found : goal.returns-in-Some-clause-found
returns-in-Some-clause-found c picks =
    let vs : List Viewer = c.args.recipients.now.viewers.items in
    let i = c.args.index in
    let s = c.args.replica.now.guild in
    let e = c.args.entry.now in
    let here = item_at vs i c.requires in
    let v : Viewer = c.index-viewer.result.now in
    let viewed : v ≡ here.item = c.index-viewer.ensures ∙ get_or_from_slice_get vs i here.item v here.found in
    noted_for s e vs i c.args.self.now.noted.items c.args.self.now.whose.items v c.in-Some.at picks c.in-Some.ensures
    ∙ (ap (λ (w : Viewer). Some (was_of s w e)) viewed ∙ sym (ap (option_map (λ (w : Viewer). was_of s w e)) here.found))

pub returns-clause-found : goal.returns-clause-found
returns-clause-found c picks =
    let vs : List Viewer = c.args.recipients.now.viewers.items in
    let i = c.args.index in
    let note_of = λ (w : Viewer). was_of c.args.replica.now.guild w c.args.entry.now in
    let here = item_at vs i c.requires in
    let v : Viewer = c.index-viewer.result.now in
    let viewed : v ≡ here.item = c.index-viewer.ensures ∙ get_or_from_slice_get vs i here.item v here.found in
    let noted : List Was = c.args.self.now.noted.items in
    let one : Was = c.in_ok-note.note in
    ap (λ (ns : List Was). slice_get ns c.len-at.result) c.in_ok-push.ensures.items
    ∙ (ap (slice_get (noted ++ one ∷ [])) (c.len-at.ensures ∙ c.args.self.now.noted.ok.0)
    ∙ (get_at noted one []
    ∙ (ap (λ (w : Was). Some w) (c.in_ok-note.ensures ∙ ap note_of viewed) ∙ sym (ap (option_map note_of) here.found))))
