use Rattle.std.proofs.Common.{◌≡◌, map, take}
use Rattle.dispatch_types.specs.Objects.{member_object}
use Rattle.member_chunks.proofs.chunk.member_objects.Given as goal

abbrev pub invariant-loop-member : goal.invariant-loop-member
invariant-loop-member l = l.objects ≡ map member_object (map (λ member. member.now) (take l.member-index l.members))
