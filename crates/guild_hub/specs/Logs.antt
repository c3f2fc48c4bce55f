-- A hub's log as far as it was published, what a hub keeps of it, and how it goes on.
use Rattle.std.specs.Prelude.{◌≡◌, ℕ, ◌+◌, ◌-◌, List, [], ◌∷◌, ◌++◌, Bool, true, take, length, cond}
use mathlib.Core.List.{IsPrefix}
use Rattle.logbook.specs.Pages.{Book}
use Rattle.guild_model.specs.Record.{Record}
use Rattle.edit_apply.specs.declared.Edit.{Edit}
use Rattle.edit_apply.specs.Edits.{accepts, after, state}

-- which hub it is: its guild, and the name that its history has in proofs
pub record Hub : Type 0 where
  pub guild : ℕ
  pub book : Book

-- a log as far as it was published, and whether it has its seal
pub record Published : Type 0 where
  pub hub : Hub
  pub entries : List Edit
  pub sealed : Bool

abbrev pub published : Hub → List Edit → Bool → Published
published hub entries sealed = record { hub = hub; entries = entries; sealed = sealed }

-- a log with one entry more
abbrev pub with_entry : Published → Edit → Published
with_entry log edit = published log.hub (log.entries ++ edit ∷ []) log.sealed

abbrev pub with_seal : Published → Published
with_seal log = published log.hub log.entries true

-- the same log at a later moment: nothing follows a seal
pub record GoesOn (earlier later : Published) : Type 0 where
  pub hub : later.hub ≡ earlier.hub
  pub entries : IsPrefix earlier.entries later.entries
  pub final : earlier.sealed ≡ true → later ≡ earlier

-- how many of the first entries of a log of this length are kept as a record alone
abbrev pub trimmed : ℕ → ℕ
trimmed len = len - 4096

abbrev pub base_of : Published → ℕ
base_of log = trimmed (length log.entries)

-- the record after the first n entries
abbrev pub record_after : Published → ℕ → Record
record_after log n = state log.hub.guild (take n log.entries)

-- the record after all entries
abbrev pub whole_record : Published → Record
whole_record log = state log.hub.guild log.entries

abbrev pub accepted_from : Record → List Edit → ℕ
accepted_from g [] = 0
accepted_from g (edit ∷ edits) = cond (accepts g edit) 1 0 + accepted_from (after g edit) edits

-- how many of the first n entries were accepted
abbrev pub accepted_before : Published → ℕ → ℕ
accepted_before log n = accepted_from (state log.hub.guild []) (take n log.entries)

-- how many entries were accepted
abbrev pub accepted : Published → ℕ
accepted log = accepted_from (state log.hub.guild []) log.entries
