use Rattle.std.proofs.Common.{◌≡◌, map}
use Rattle.std.specs.List.{range_with_len}
use Rattle.dispatch_types.specs.declared.dispatch.Dispatch.TheVariants.{GuildMembersChunk}
use Rattle.member_chunks.specs.Answered.{chunk}
use Rattle.member_chunks.proofs.chunk.chunks.Given as goal

abbrev pub invariant-loop-index : goal.invariant-loop-index
invariant-loop-index l = l.list.items ≡ map (λ index. GuildMembersChunk (chunk l.guild l.ask (map (λ member. member.now) l.members) index)) (range_with_len 0 l.index)
