use Rattle.std.proofs.Common.{◌<◌, List, [], ◌∷◌, ◌++◌, map, take, length, sym, ap, ◌∙◌, arith}
use Rattle.std.specs.List.{filter_map, cons_option}
use Rattle.std.proofs.lemmas.List.{append-nil}
use Rattle.dispatch_types.specs.declared.threads.ThreadMemberObject.{ThreadMemberObject}
use Rattle.thread_sync.specs.Sync.{own_membership}
use Rattle.thread_sync.proofs.Steps.{parts-more}
use Rattle.thread_sync.proofs.list_sync.own_memberships.Goals as goal
use Rattle.thread_sync.proofs.list_sync.own_memberships.Goals.{in-Some+in_ok-push, in_default}

pub loop-thread-preserved : goal.loop-thread-preserved
loop-thread-preserved c =
    let lt : c.loop-thread.thread-index < length c.args.threads.now = omega arith in
    let step = parts-more (own_membership c.args.user) (λ thread. thread.now) c.args.threads.now c.loop-thread.thread-index c.thread-item.result lt (sym c.thread-item.is) in
    let listed : List ThreadMemberObject = filter_map (own_membership c.args.user) (map (λ thread. thread.now) (take c.loop-thread.thread-index c.args.threads.now)) in
    elim c.match-own_membership.branch [
      | in-Some+in_ok-push w ↦ w.members-is ∙ (w.in_ok-push.ensures.ok ∙ (ap (λ members. members ++ w.in-Some.member ∷ []) c.loop-thread.invariant
          ∙ (ap (λ member. listed ++ cons_option member []) (sym w.in-Some.is ∙ c.own_membership.ensures) ∙ sym step)))
      | in_default w ↦ w.members-is ∙ (c.loop-thread.invariant ∙ (sym (append-nil listed)
          ∙ (ap (λ member. listed ++ cons_option member []) (sym w.in_default.is ∙ c.own_membership.ensures) ∙ sym step)))
    ]
