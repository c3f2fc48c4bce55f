-- The rule of a lane's flag: it is up exactly if the end that puts has left, and the end that takes knows only a flag that is up.
use Rattle.std.specs.Prelude.{◌≡◌, ℕ, ◌==◌, Bool, true, false, if◌then◌else◌, length, slice_index}
use mathlib.Core.Option.{some}
use lib.ListN.{get_elem?}
use Rattle.atomic_table.specs.Table.{State, Me, Step}
use Rattle.thread_outside.specs.declared.flag_view.FlagView.{FlagView}

abbrev pub view_of : Bool → Bool → Bool → Bool → FlagView
view_of puts left takes found = record { puts = puts; left = left; takes = takes; found = found }

-- the one seat of a new flag, before it is split
abbrev pub whole : FlagView
whole = view_of true false true false

-- the two seats that it is split into
abbrev pub leaver : FlagView → FlagView
leaver v = view_of true v.left false false

abbrev pub finder : FlagView → FlagView
finder v = view_of false false true v.found

-- the end that puts has left
abbrev pub leaving : FlagView → FlagView
leaving v = view_of v.puts true v.takes v.found

-- the end that takes has looked, and has found this word
abbrev pub finding : FlagView → ℕ → FlagView
finding v word = view_of v.puts v.left v.takes (if word == 0 then v.found else true)

abbrev pub Slot : Type 0
Slot = Unit {0}

abbrev pub FlagState : Type 0
FlagState = State Slot FlagView

-- Each seat has an index in `views`: the one that leaves has the index `leave_at`, the one that finds has the index `find_at`.
pub record KeepsFlag (s : FlagState) : Type 0 where
  pub leave_at : ℕ
  pub find_at : ℕ
  pub one : length s.words ≡ 1
  pub leavers : (j : ℕ) (v : FlagView) → get_elem? s.views j ≡ some v → v.puts ≡ true
      → (j ≡ leave_at) × (slice_index s.words 0 ≡ (if v.left then 1 else 0))
  pub finders : (j : ℕ) (v : FlagView) → get_elem? s.views j ≡ some v → v.takes ≡ true
      → (j ≡ find_at) × (slice_index s.words 0 ≡ 0 → v.found ≡ false)

abbrev pub Sat : Type 0
Sat = Me Slot FlagView

-- the end that puts leaves
abbrev pub Leaves : Step Slot → Sat → ℕ → Sat → Type 0
Leaves st m word k = k ≡ (leaving m.0, m.1)

-- the end that takes looks; a flag that is down it has never found up
abbrev pub Finds : Step Slot → Sat → ℕ → Sat → Type 0
Finds st m word k = (k ≡ (finding m.0 word, m.1)) × (word ≡ 0 → m.0.found ≡ false)
