-- What a look and a rebase do.
use Rattle.std.specs.Prelude.{◌≡◌, ◌⊎◌, ◌≤◌, ◌<◌, List, [], ◌∷◌, ◌++◌, true, drop, length}
use Rattle.guild_hub.specs.Logs.{Published, GoesOn, base_of, record_after}
use Rattle.guild_hub.specs.Sights.{Seeing, Fits, end_of, segment, with_more, has_quit}
use Rattle.guild_hub.specs.declared.reader.Looked.{Looked}
use Rattle.guild_hub.specs.declared.reader.Rebased.{Rebased}
use Rattle.guild_hub.specs.declared.reader.LookRefused.{LookRefused}
use Rattle.guild_hub.specs.declared.reader.LookRefused.TheVariants.{Lagged, Memory}

-- what every step leaves: the log goes on, the last segment is a part of it, and a quit that is known stays
pub record StepsTo (before after : Seeing) : Type 0 where
  pub log : GoesOn before.log after.log
  pub fits : Fits after.last after.log
  pub mark : after.mark ≡ before.mark
  pub quit : has_quit before ≡ true → has_quit after ≡ true

-- one step on the hub, which found the log
abbrev pub Enters : Seeing → Seeing → Type 0
Enters before after = after.enters ≡ before.enters ++ after.log ∷ []

-- at most one step on the hub, whatever it found
abbrev pub MayEnter : List Published → List Published → Type 0
MayEnter before after = (after ≡ before) ⊎ ((log : Published) × (after ≡ before ++ log ∷ []))

-- a look gives the entries of the log, as its one step found it, that follow what was seen; all of them are kept
pub record Looks (before : Seeing) (looked : Looked) (after : Seeing) : Type 0 where
  pub steps : StepsTo before after
  pub enters : Enters before after
  pub kept : base_of after.log ≤ end_of before.last
  pub entries : looked.entries.items ≡ drop (end_of before.last) after.log.entries
  pub last : after.last ≡ with_more before.last looked.entries.items
  pub reaches : end_of after.last ≡ length after.log.entries
  pub sealed : looked.sealed ≡ after.log.sealed
  pub quit : looked.quit ≡ has_quit after

-- a look lags exactly if some of the entries that follow what was seen are no longer kept, as its one step found;
-- out of memory, what was seen and what is known of the log stay
abbrev pub Lags : Seeing → LookRefused → Seeing → Type 0
Lags before (Lagged base cursor) after =
    StepsTo before after × Enters before after × (after.last ≡ before.last)
    × (base ≡ base_of after.log) × (cursor ≡ end_of before.last) × (cursor < base)
Lags before Memory after =
    StepsTo before after × MayEnter before.enters after.enters × (after.last ≡ before.last) × (after.log ≡ before.log)

-- a rebase gives the record and the entries that are kept of the log, as its one step found it
pub record Rebases (before : Seeing) (rebased : Rebased) (after : Seeing) : Type 0 where
  pub steps : StepsTo before after
  pub enters : Enters before after
  pub base : rebased.base ≡ base_of after.log
  pub basis : rebased.basis ≡ record_after after.log rebased.base
  pub entries : rebased.entries.items ≡ drop rebased.base after.log.entries
  pub last : after.last ≡ segment rebased.base rebased.basis rebased.entries.items
  pub reaches : end_of after.last ≡ length after.log.entries
  pub sealed : rebased.sealed ≡ after.log.sealed
  pub marks : after.mark_steps ≡ before.mark_steps
