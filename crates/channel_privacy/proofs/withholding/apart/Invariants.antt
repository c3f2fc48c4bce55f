use Rattle.std.proofs.Common.{◌≡◌, ◌++◌, length}
use Rattle.std.specs.Prelude.{filter}
use Rattle.std.specs.Vec.Iter.{into_iter_items, into_iter_len}
use Rattle.channel_privacy.specs.Withheld.{is_sync, is_no_sync}
use Rattle.channel_privacy.proofs.withholding.apart.Given as goal

-- what was taken, and what is still to be taken of the rest, is what was to be taken from the start
abbrev pub invariant-loop-dispatch : goal.invariant-loop-dispatch
invariant-loop-dispatch l =
    (l.parts.rows.items ++ filter is_no_sync (into_iter_items l.dispatch-iterator) ≡ filter is_no_sync (into_iter_items l.initial.dispatch-iterator))
    × ((l.parts.syncs.items ++ filter is_sync (into_iter_items l.dispatch-iterator) ≡ filter is_sync (into_iter_items l.initial.dispatch-iterator))
    × (into_iter_len l.dispatch-iterator ≡ length (into_iter_items l.dispatch-iterator)))
