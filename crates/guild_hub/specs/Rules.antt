-- The rule of what a hub shows, and what a step tells of it.
use Rattle.std.specs.Prelude.{◌≡◌, ℕ, ◌≤◌, Bool, true, false, List, [], ◌∷◌, ◌++◌, drop}
use mathlib.Core.Option.{some}
use lib.ListN.{get_elem?}
use Rattle.edit_apply.specs.declared.Edit.{Edit}
use Rattle.guild_hub.specs.Logs.{Hub, Published, base_of}
use Rattle.guild_hub.specs.Trims.{spine_of, IsTrimmed}
use Rattle.guild_hub.specs.declared.shown.Shown.{Shown}
use Rattle.guild_hub.specs.declared.ruled.View.{View}

-- which hub it is, as data
abbrev pub name_of : Hub → ℕ × (ℕ × (ℕ × ℕ))
name_of hub = (hub.guild, (hub.book.number, (hub.book.log_name, hub.book.cells_name)))

abbrev pub view_of : Bool → ℕ × (ℕ × (ℕ × ℕ)) → List Published → View
view_of named hub enters = record { named = named; hub = hub; enters = enters }

-- a seat that does not know which hub it is of
abbrev pub stranger : View
stranger = view_of false (0, (0, (0, 0))) []

-- a seat that knows its hub, and found these logs
abbrev pub knows : Hub → List Published → View
knows hub enters = view_of true (name_of hub) enters

-- the seat knows this hub
abbrev pub Knows : Hub → View → Type 0
Knows hub v = (v.named ≡ true) × (v.hub ≡ name_of hub)

-- the seat after it found a log
abbrev pub entered : View → Published → View
entered v log = knows log.hub (v.enters ++ log ∷ [])

-- what is shown is of the hub that a seat knows
abbrev pub Names : Shown → View → Type 0
Names x v = v.named ≡ true → v.hub ≡ name_of x.note.hub

-- what is shown is the log, trimmed, and of one hub always
pub record Keeps (x : Shown) (views : List View) : Type 0 where
  pub trimmed : IsTrimmed (spine_of x)
  pub names : (seat : ℕ) (v : View) → get_elem? views seat ≡ some v → Names x v

-- the writer shows y, by the hub that was known
abbrev pub Shows : View → Shown → Shown → View → Type 0
Shows v x y w = Names x v × (w ≡ knows y.note.hub []) × IsTrimmed (spine_of y)

-- a reader finds the log that y shows, by the hub that was known
abbrev pub Sees : View → Shown → Shown → View → Type 0
Sees v x y w = Names x v × (w ≡ entered v y.note) × IsTrimmed (spine_of y)

-- what is shown stays of one hub, and trimmed
pub record Continues (x y : Shown) : Type 0 where
  pub hub : x.note.hub ≡ y.note.hub
  pub trimmed : IsTrimmed (spine_of x) → IsTrimmed (spine_of y)

-- what is found after so many entries: the entries are those that follow, unless some of them are no longer kept
abbrev pub FindsEntries : ℕ → Published → List Edit → Type 0
FindsEntries cursor log entries = (base_of log ≤ cursor) × (entries ≡ drop cursor log.entries)
