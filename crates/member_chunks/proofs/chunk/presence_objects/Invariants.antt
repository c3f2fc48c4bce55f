use Rattle.std.proofs.Common.{◌≡◌, map, take}
use Rattle.std.specs.List.{filter_map}
use Rattle.member_chunks.specs.Answered.{presence_told}
use Rattle.member_chunks.proofs.chunk.presence_objects.Given as goal

abbrev pub invariant-loop-member : goal.invariant-loop-member
invariant-loop-member l = l.objects ≡ filter_map (presence_told l.guild) (map (λ member. member.now) (take l.member-index l.members))
