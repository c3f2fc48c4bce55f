use Rattle.std.proofs.Common.{◌≡◌, ◌+◌, ℕ, suc, List, [], ◌∷◌, ◌++◌, Option, take, get_or, arith, sym, subst}
use Rattle.mask_cache.specs.Masks.{UserMasks}
use Rattle.guild_replica.specs.Replicas.{AreKept, EachKept}
use Rattle.guild_replica.proofs.Served.{next-kept}
use Rattle.guild_replica.proofs.masks.masks_of_each.Goals as goal

pub loop-user-preserved : goal.loop-user-preserved
loop-user-preserved c =
    let s = c.args.guild.now in
    let users = c.args.users.now in
    let index = c.loop-user.user-index in
    let user = c.user-item.result in
    let list = c.loop-user.masks.items in
    let one = c.in_ok-masks_for.field-0 in
    let kept : AreKept s (get_or users index user) one = subst (λ (u : ℕ). AreKept s u one) c.user-item.is c.in_ok-masks_for.ensures in
    let further : suc index ≡ index + 1 = omega arith in
    let each : EachKept s (take (index + 1) users) (list ++ one ∷ []) = subst (λ (n : ℕ). EachKept s (take n users) (list ++ one ∷ [])) further (next-kept s users index user list one c.loop-user-test.true c.loop-user.invariant kept) in
    subst (λ (l : List (Option UserMasks)). EachKept s (take (index + 1) users) l) (sym {A = List (Option UserMasks)} c.in_ok-push.ensures.items) each
