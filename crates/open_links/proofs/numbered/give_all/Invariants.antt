use Rattle.std.proofs.Common.{◌≡◌, map, length}
use Rattle.std.specs.Vec.Iter.{into_iter_items, into_iter_len}
use Rattle.open_links.specs.Links.{as_returned, with_more}
use Rattle.open_links.specs.Calls.{IsSameDoor}
use Rattle.open_links.proofs.numbered.give_all.Given as goal

-- what is still to be given back gives what was to be given back from the start
abbrev pub invariant-loop-link : goal.invariant-loop-link
invariant-loop-link g l =
    (with_more (g.D.Door.tale l.door).returned (map as_returned (into_iter_items l.link-iterator)) ≡ with_more (g.D.Door.tale l.initial.door).returned (map as_returned (into_iter_items l.initial.link-iterator)))
    × IsSameDoor (g.D.Door.tale l.initial.door) (g.D.Door.tale l.door)
    × (g.D.Door.faults l.door ≡ g.D.Door.faults l.initial.door)
    × (into_iter_len l.link-iterator ≡ length (into_iter_items l.link-iterator))
