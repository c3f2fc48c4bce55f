-- The hooks that are called, one after another.
use Rattle.std.proofs.Common.{◌≡◌, ℕ, ◌+◌, ◌<◌, ◌≤◌, Bool, true, false, List, [], ◌∷◌, ◌++◌, length, slice_index_or, drop, append_assoc}
use Rattle.std.specs.List.{filter, enumerate_from, AllZip}
use Rattle.std.proofs.lemmas.List.{drop_more, drop_all, append-nil}

module _ {H N : Type 0} (is_for : ℕ × H → Bool) (R : ℕ × H → N → Type 0) where
  -- the hooks from a place on that are called have these notes
  abbrev pub NotesFrom : ℕ → List H → List N → Type 0
  NotesFrom i hooks notes = AllZip R (filter is_for (enumerate_from i hooks)) notes

  -- what is noted, and then the notes of the hooks from a place on, are the notes of all
  abbrev pub RunsTo : List H → ℕ → List N → Type 0
  RunsTo hooks i noted = (notes : List N) → NotesFrom i (drop i hooks) notes → NotesFrom 0 hooks (noted ++ notes)

  called : (i : ℕ) (hook : H) (hooks : List H) (note : N) (notes : List N) → is_for (i, hook) ≡ true → R (i, hook) note → NotesFrom (i + 1) hooks notes → NotesFrom i (hook ∷ hooks) (note ∷ notes)
  called i hook hooks note notes is meets later = rw is (meets, later)

  passed : (i : ℕ) (hook : H) (hooks : List H) (notes : List N) → is_for (i, hook) ≡ false → NotesFrom (i + 1) hooks notes → NotesFrom i (hook ∷ hooks) notes
  passed i hook hooks notes is later = rw is later

  -- a hook that is called adds its note
  pub after_call : (hooks : List H) (i : ℕ) (hook : H) (note : N) (old new : List N) → i < length hooks → slice_index_or hooks i hook ≡ hook → is_for (i, hook) ≡ true → R (i, hook) note → new ≡ old ++ note ∷ [] → RunsTo hooks i old → RunsTo hooks (i + 1) new
  after_call hooks i hook note old new below at is meets pushed runs =
      λ notes later.
      rw (pushed, append_assoc old (note ∷ []) notes)
      (runs (note ∷ notes) (rw (drop_more hooks i hook below, at) (called i hook (drop (i + 1) hooks) note notes is meets later)))

  -- and another adds nothing
  pub after_pass : (hooks : List H) (i : ℕ) (hook : H) (old new : List N) → i < length hooks → slice_index_or hooks i hook ≡ hook → is_for (i, hook) ≡ false → new ≡ old → RunsTo hooks i old → RunsTo hooks (i + 1) new
  after_pass hooks i hook old new below at is same runs =
      λ notes later.
      rw same (runs notes (rw (drop_more hooks i hook below, at) (passed i hook (drop (i + 1) hooks) notes is later)))

  pub at_end : (hooks : List H) (i : ℕ) (noted : List N) → length hooks ≤ i → RunsTo hooks i noted → NotesFrom 0 hooks noted
  at_end hooks i noted over runs = rw (← append-nil noted) (runs [] (rw (drop_all i hooks over) tt))

-- notes that meet a relation meet each that follows from it
pub same_notes : {X N : Type 0} (R S : X → N → Type 0) → ((x : X) (note : N) → R x note → S x note) → (xs : List X) (notes : List N) → AllZip R xs notes → AllZip S xs notes
same_notes R S follows [] [] all = tt
same_notes R S follows [] (note ∷ notes) all = all
same_notes R S follows (x ∷ xs) [] all = all
same_notes R S follows (x ∷ xs) (note ∷ notes) all = (follows x note all.0, same_notes R S follows xs notes all.1)
