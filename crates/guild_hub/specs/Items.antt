-- The history of a hub: its entries, and then its seal, which nothing follows.
use Rattle.std.specs.Prelude.{◌≡◌, ℕ, List, [], ◌∷◌, Bool, true, false}
use Rattle.logbook.specs.Pages.{Book}
use Rattle.edit_apply.specs.declared.Edit.{Edit}
use Rattle.guild_hub.specs.declared.item.Item.{Item}
use Rattle.guild_hub.specs.declared.item.Item.TheVariants.{Entry, Seal}
use Rattle.guild_hub.specs.Logs.{Published, published}

abbrev pub edits_of : List Item → List Edit
edits_of [] = []
edits_of (Entry edit ∷ items) = edit ∷ edits_of items
edits_of (Seal ∷ items) = edits_of items

abbrev pub has_seal : List Item → Bool
has_seal [] = false
has_seal (Entry edit ∷ items) = has_seal items
has_seal (Seal ∷ items) = true

-- 1 for a seal, and 0 for none
abbrev pub seals : Bool → ℕ
seals true = 1
seals false = 0

-- nothing follows a seal
abbrev pub IsFinal : List Item → Type 0
IsFinal [] = Unit {0}
IsFinal (Entry edit ∷ items) = IsFinal items
IsFinal (Seal ∷ items) = items ≡ []

-- the log that a history tells
abbrev pub log_of : ℕ → Book → List Item → Published
log_of guild book items = published (record { guild = guild; book = book }) (edits_of items) (has_seal items)
