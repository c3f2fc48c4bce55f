-- What an operation does to what a hub shows.
use Rattle.std.specs.Prelude.{◌≡◌, ℕ, ◌+◌, [], ◌∷◌, ◌++◌, take, drop, length, nat_lt, if◌then◌else◌}
use Rattle.edit_apply.specs.declared.Edit.{Edit}
use Rattle.edit_apply.specs.Edits.{state_from}
use Rattle.guild_hub.specs.Logs.{Published, base_of, record_after, accepted_from, accepted_before}
use Rattle.guild_hub.specs.declared.shown.Shown.{Shown}
use Rattle.guild_hub.specs.declared.shown.Spine.{Spine}
use Rattle.guild_hub.specs.declared.shown.Op.{Op}
use Rattle.guild_hub.specs.declared.shown.Op.TheVariants.{Add, Seal}

abbrev pub spine_of : Shown → Spine
spine_of x = record { basis = x.front.record; accepted = x.front.accepted; entries = x.entries.items; note = x.note }

-- how many of so many entries go into the record when one more comes
abbrev pub over : ℕ → ℕ
over n = if nat_lt n 4096 then 0 else 1

abbrev pub pushed : Spine → Edit → Published → Spine
pushed s edit log = record {
  basis = state_from s.basis (take (over (length s.entries)) s.entries);
  accepted = s.accepted + accepted_from s.basis (take (over (length s.entries)) s.entries);
  entries = drop (over (length s.entries)) s.entries ++ edit ∷ [];
  note = log;
}

abbrev pub after_op : Spine → Op → Spine
after_op s (Add edit log) = pushed s edit log
after_op s (Seal log) = record { basis = s.basis; accepted = s.accepted; entries = s.entries; note = log }

-- what is shown is the record after the first entries of the log, how many of these were accepted, and the entries that follow them
pub record IsTrimmed (x : Spine) : Type 0 where
  pub basis : x.basis ≡ record_after x.note (base_of x.note)
  pub accepted : x.accepted ≡ accepted_before x.note (base_of x.note)
  pub entries : x.entries ≡ drop (base_of x.note) x.note.entries
