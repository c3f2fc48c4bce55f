use Rattle.std.proofs.Common.{◌≡◌, take}
use Rattle.std.specs.Prelude.{filter}
use Rattle.dispatch_types.specs.Projection.{is_known}
use Rattle.projection.proofs.members.listed_members.Given as goal

abbrev pub invariant-loop-member : goal.invariant-loop-member
invariant-loop-member l = l.copies.items ≡ filter (is_known l.users) (take l.member-index l.members)
