use Rattle.std.proofs.Common.{◌≡◌, not, take}
use Rattle.std.specs.Prelude.{filter}
use Rattle.collections.specs.ById.{has_id}
use Rattle.guild_model.specs.Record.{member_id}
use Rattle.member_chunks.proofs.find.others_among.Given as goal

abbrev pub invariant-loop-id : goal.invariant-loop-id
invariant-loop-id l = l.list.items ≡ filter (λ id. not (has_id member_id id l.guild.members)) (take l.id-index l.ids)
