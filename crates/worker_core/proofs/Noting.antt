-- What is noted for a viewer is noted for each that is served alike.
use Rattle.std.proofs.Common.{◌≡◌, ℕ, zero, suc, ◌<◌, List, [], ◌∷◌, Some, length, map, take, not-suc-le-zero, refl, sym, ap, ◌∙◌, arith}
use Rattle.std.specs.Prelude.{option_map, slice_get}
use Rattle.std.proofs.lemmas.List.{length-map}
use Rattle.std.proofs.lemmas.Option.{slice_get-map, slice_get_within}
use Rattle.guild_model.specs.Record.{Record}
use Rattle.dispatch_types.specs.declared.viewer.Viewer.{Viewer}
use Rattle.dispatch_types.specs.Serves.{served}
use Rattle.edit_apply.specs.declared.Edit.{Edit}
use Rattle.edit_events.specs.declared.due.Was.{Was}
use Rattle.edit_events.specs.Was.{was_of, was_to}
use Rattle.worker_core.specs.Recipients.{AreServedAlike, IsOfAlike, Picks, picked_by}
use Rattle.worker_core.proofs.Picking.{as_many_picked, at_index}

same_served : (s : Record) (v w : Viewer) → AreServedAlike w v → served w s ≡ served v s
same_served s v w is = rw (is.0, is.1) refl

same_note : (s : Record) (e : Edit) (v w : Viewer) → AreServedAlike w v → was_of s w e ≡ was_of s v e
same_note s e v w is = ap (λ me. was_to s me e) (same_served s v w is)

-- what stands among the first items of a list
taken_at : {A : Type 0} (xs : List A) (i k : ℕ) (a : A) → k < length (take i xs) → slice_get xs k ≡ Some a → slice_get (take i xs) k ≡ Some a
taken_at [] zero k a lt at = at
taken_at [] (suc i) k a lt at = at
taken_at (x ∷ xs) zero k a lt at = absurd (not-suc-le-zero lt)
taken_at (x ∷ xs) (suc i) zero a lt at = at
taken_at (x ∷ xs) (suc i) (suc k) a lt at = taken_at xs i k a (omega (arith, lt)) at

-- the note at the index of a viewer that is served alike
pub noted_for : (s : Record) (e : Edit) (vs : List Viewer) (i : ℕ) (noted : List Was) (whose : List ℕ) (v : Viewer) (index : ℕ)
    → Picks noted whose (map (λ (w : Viewer). was_of s w e) (take i vs)) → IsOfAlike vs whose v index → slice_get noted index ≡ Some (was_of s v e)
noted_for s e vs i noted whose v index picks alike =
    let note_of = λ (w : Viewer). was_of s w e in
    let place : ℕ = alike.0 in
    let w : Viewer = alike.1 in
    let many : length whose ≡ length (take i vs) = as_many_picked noted whose (map note_of (take i vs)) picks ∙ length-map (take i vs) note_of in
    let within : place < length whose = slice_get_within whose place index alike.2 in
    let known : slice_get (map note_of (take i vs)) place ≡ Some (note_of w) =
    slice_get-map note_of (take i vs) place ∙ ap (option_map note_of) (taken_at vs i place w (omega (arith, many, within)) alike.3) in
    ap (picked_by noted) (sym alike.2)
    ∙ (at_index noted whose (map note_of (take i vs)) place (note_of w) picks known ∙ ap (λ (n : Was). Some n) (same_note s e v w alike.4))

-- the note at the index of a viewer
pub noted_at : (s : Record) (e : Edit) (vs : List Viewer) (i : ℕ) (noted : List Was) (whose : List ℕ) (v : Viewer)
    → Picks noted whose (map (λ (w : Viewer). was_of s w e) vs) → slice_get vs i ≡ Some v → picked_by noted (slice_get whose i) ≡ Some (was_of s v e)
noted_at s e vs i noted whose v picks here =
    let note_of = λ (w : Viewer). was_of s w e in
    at_index noted whose (map note_of vs) i (note_of v) picks (slice_get-map note_of vs i ∙ ap (option_map note_of) here)
