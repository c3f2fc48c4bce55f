use Rattle.std.proofs.Common.{◌≡◌, ◌++◌, length}
use Rattle.std.specs.Prelude.{flat_map}
use Rattle.std.specs.Vec.Iter.{into_iter_items, into_iter_len}
use Rattle.channel_privacy.specs.Withheld.{told_shown}
use Rattle.channel_privacy.specs.ByNote.{showing_by}
use Rattle.channel_privacy.proofs.withholding.told_rows.Given as goal

abbrev pub invariant-loop-row : goal.invariant-loop-row
invariant-loop-row l =
    (l.list.items ++ flat_map (told_shown (showing_by l.was l.private l.standing)) (into_iter_items l.row-iterator) ≡ flat_map (told_shown (showing_by l.was l.private l.standing)) (into_iter_items l.initial.row-iterator))
    × (into_iter_len l.row-iterator ≡ length (into_iter_items l.row-iterator))
