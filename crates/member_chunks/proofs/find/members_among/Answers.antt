use Rattle.std.proofs.Common.{◌<◌, ℕ, length, sym, ap, ◌∙◌, Bor, arith}
use Rattle.std.specs.Option.{option_copied}
use Rattle.collections.specs.ById.{find_id}
use Rattle.guild_model.specs.declared.member.Member.{Member}
use Rattle.guild_model.specs.Record.{member_id}
use Rattle.member_chunks.proofs.Steps.{part_comes, no_part}
use Rattle.member_chunks.proofs.find.members_among.Goals as goal
use Rattle.member_chunks.proofs.find.members_among.Goals.{in-Some+in_ok-push, in_default}

pub loop-id-preserved : goal.loop-id-preserved
loop-id-preserved c =
    let lt : c.loop-id.id-index < length c.args.ids.now = omega arith in
    let among = λ (id : ℕ). find_id member_id id c.args.guild.now.members in
    elim c.match-member.branch [
      | in-Some+in_ok-push w ↦ (let step = part_comes among (λ (member : Bor Member). member.now) c.args.ids.now c.loop-id.id-index c.id-item.result lt (sym c.id-item.is) c.loop-id.list.items c.loop-id.invariant w.in-Some.member (sym c.member.ensures ∙ ap option_copied w.in-Some.is) in cc (step, w.in_ok-push.ensures.items, w.list-is))
      | in_default w ↦ (let step = no_part among (λ (member : Bor Member). member.now) c.args.ids.now c.loop-id.id-index c.id-item.result lt (sym c.id-item.is) c.loop-id.list.items c.loop-id.invariant (sym c.member.ensures ∙ ap option_copied w.in_default.is) in cc (step, w.list-is))
    ]
