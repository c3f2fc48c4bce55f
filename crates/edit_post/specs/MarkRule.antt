-- The rule of the marks: the word of each sender is what it stored, and a mark that was found is the word.
use Rattle.std.specs.Prelude.{◌≡◌, ◌≢◌, ℕ, ◌<◌, ◌≤◌, ◌+◌, Bool, true, false, List, [], ◌∷◌, ◌++◌, length, slice_index, slice_set}
use mathlib.Core.Option.{some}
use lib.ListN.{get_elem?}
use Rattle.atomic_table.specs.Table.{State, Me, Step}
use Rattle.edit_post.specs.declared.mark_view.MarkView.{MarkView}

abbrev pub Looks : Type 0
Looks = List (ℕ × ℕ)

abbrev pub mark : Bool → ℕ → ℕ → Bool → ℕ → List ℕ → Looks → MarkView
mark sends sender stored takes made found looks = record { sends = sends; sender = sender; stored = stored; takes = takes; made = made; found = found; looks = looks }

abbrev pub sixteen_zeros : List ℕ
sixteen_zeros = 0 ∷ 0 ∷ 0 ∷ 0 ∷ 0 ∷ 0 ∷ 0 ∷ 0 ∷ 0 ∷ 0 ∷ 0 ∷ 0 ∷ 0 ∷ 0 ∷ 0 ∷ 0 ∷ []

-- the taker before there is a sender
abbrev pub no_marks : MarkView
no_marks = mark false 0 0 true 0 sixteen_zeros []

-- a seat that has ended
abbrev pub no_mark : MarkView
no_mark = mark false 0 0 false 0 [] []

-- the taker and the sender after the taker made a seat for the next sender
abbrev pub with_unfound : MarkView → MarkView
with_unfound v = mark v.sends v.sender v.stored v.takes (v.made + 1) v.found v.looks

abbrev pub unstored : MarkView → MarkView
unstored v = mark true v.made 0 false 0 [] []

abbrev pub storing : MarkView → ℕ → MarkView
storing v n = mark v.sends v.sender n v.takes v.made v.found v.looks

abbrev pub finding : MarkView → ℕ → ℕ → MarkView
finding v p n = mark v.sends v.sender v.stored v.takes v.made (slice_set v.found p n) (v.looks ++ (p, n) ∷ [])

-- the taker, which knows now what the sender stored
abbrev pub knowing : MarkView → MarkView → MarkView
knowing v w = mark w.sends w.sender w.stored v.takes v.made v.found v.looks

abbrev pub Slot : Type 0
Slot = Unit {0}

-- Each seat has a place in `views`: the one taker has the place `taker_at`, the sender p has the place `sender_at p`.
pub record Marked (s : State Slot MarkView) : Type 0 where
  pub taker_at : ℕ
  pub made : ℕ
  pub sender_at : ℕ → ℕ
  pub sixteen : length s.words ≡ 16
  pub unmade : (p : ℕ) → made ≤ p → slice_index s.words p ≡ 0
  pub senders : (j : ℕ) (v : MarkView) → get_elem? s.views j ≡ some v → v.sends ≡ true → (sender_at v.sender ≡ j) × (slice_index s.words v.sender ≡ v.stored) × (v.sender < made) × (v.sender < 16)
  pub taker : (j : ℕ) (v : MarkView) → get_elem? s.views j ≡ some v → v.takes ≡ true
      → (j ≡ taker_at) × (v.made ≡ made) × ((p : ℕ) → slice_index v.found p ≢ 0 → slice_index s.words p ≡ slice_index v.found p)

abbrev pub Sat : Type 0
Sat = Me Slot MarkView

-- the sender stores its mark
abbrev pub Stores : Step Slot → Sat → ℕ → Sat → Type 0
Stores st m n k = k ≡ (storing m.0 n, m.1)

-- At one step the sender's word held no mark, and the seat's view was this.
abbrev pub WasUnstored : ℕ → MarkView → Type 0
WasUnstored sender v = (s : State Slot MarkView) × (seat : ℕ) × Marked s × (get_elem? s.views seat ≡ some v) × (slice_index s.words sender ≡ 0)

-- the taker finds what the word holds, which is what it found before, if it found a mark
abbrev pub Finds : Step Slot → Sat → ℕ → Sat → Type 0
Finds st m n k =
    (k ≡ (finding m.0 st.word n, m.1))
    × (slice_index m.0.found st.word ≢ 0 → n ≡ slice_index m.0.found st.word)
    × (n ≡ 0 → WasUnstored st.word k.0)

-- what the taker found of the sender that it has settled with is what this one stored
abbrev pub Agrees : Step Slot → Sat → ℕ → Sat → Type 0
Agrees st m n k = (k ≡ m) × (slice_index m.0.found m.0.sender ≢ 0 → slice_index m.0.found m.0.sender ≡ m.0.stored)
