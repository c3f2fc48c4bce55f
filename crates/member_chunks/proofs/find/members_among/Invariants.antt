use Rattle.std.proofs.Common.{◌≡◌, map, take}
use Rattle.std.specs.List.{filter_map}
use Rattle.collections.specs.ById.{find_id}
use Rattle.guild_model.specs.Record.{member_id}
use Rattle.member_chunks.proofs.find.members_among.Given as goal

abbrev pub invariant-loop-id : goal.invariant-loop-id
invariant-loop-id l = map (λ member. member.now) l.list.items ≡ filter_map (λ id. find_id member_id id l.guild.members) (take l.id-index l.ids)
