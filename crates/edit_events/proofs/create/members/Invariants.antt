use Rattle.std.proofs.Common.{◌≡◌, map, take}
use Rattle.std.specs.Prelude.{filter}
use Rattle.dispatch_types.specs.Objects.{member_object}
use Rattle.edit_events.specs.Greeting.{is_shown}
use Rattle.edit_events.proofs.create.members.Given as goal

abbrev pub invariant-loop-member : goal.invariant-loop-member
invariant-loop-member l = l.objects ≡ map member_object (filter (is_shown l.part l.viewer) (take l.member-index l.members))
