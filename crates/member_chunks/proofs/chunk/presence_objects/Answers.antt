use Rattle.std.proofs.Common.{◌<◌, List, [], ◌∷◌, ◌++◌, map, take, length, sym, ap, ◌∙◌, arith}
use Rattle.std.specs.List.{filter_map, cons_option}
use Rattle.std.proofs.lemmas.List.{append-nil}
use Rattle.dispatch_types.specs.declared.presences.PresenceObject.{PresenceObject}
use Rattle.thread_sync.proofs.Steps.{parts-more}
use Rattle.member_chunks.specs.Answered.{presence_told}
use Rattle.member_chunks.proofs.chunk.presence_objects.Goals as goal
use Rattle.member_chunks.proofs.chunk.presence_objects.Goals.{in-Some+in_ok-push, in_default}

pub loop-member-preserved : goal.loop-member-preserved
loop-member-preserved c =
    let lt : c.loop-member.member-index < length c.args.members.now = omega arith in
    let step = parts-more (presence_told c.args.guild.now) (λ member. member.now) c.args.members.now c.loop-member.member-index c.member-item.result lt (sym c.member-item.is) in
    let listed : List PresenceObject = filter_map (presence_told c.args.guild.now) (map (λ member. member.now) (take c.loop-member.member-index c.args.members.now)) in
    elim c.match-presence_told.branch [
      | in-Some+in_ok-push w ↦ w.objects-is ∙ (w.in_ok-push.ensures.ok ∙ (ap (λ objects. objects ++ w.in-Some.presence ∷ []) c.loop-member.invariant
          ∙ (ap (λ o. listed ++ cons_option o []) (sym w.in-Some.is ∙ c.presence_told.ensures) ∙ sym step)))
      | in_default w ↦ w.objects-is ∙ (c.loop-member.invariant ∙ (sym (append-nil listed)
          ∙ (ap (λ o. listed ++ cons_option o []) (sym w.in_default.is ∙ c.presence_told.ensures) ∙ sym step)))
    ]
