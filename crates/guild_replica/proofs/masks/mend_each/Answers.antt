use Rattle.std.proofs.Common.{◌≡◌, ℕ, suc, List, [], ◌∷◌, Option, length, take, drop, get_or, arith, sym, ap, subst, ◌∙◌}
use Rattle.std.specs.Vec.Iter.{into_iter_items}
use Rattle.std.proofs.lemmas.List.{length_push}
use Rattle.mask_cache.specs.Masks.{UserMasks}
use Rattle.guild_replica.specs.Replicas.{AreKept, EachKept}
use Rattle.guild_replica.proofs.Served.{AreKeptBefore, all-kept, head-kept, next-kept, none-left}
use Rattle.guild_replica.proofs.masks.mend_each.Goals as goal

pub loop-one-preserved : goal.loop-one-preserved
loop-one-preserved c =
    let s = c.args.guild.now in
    let e = c.args.edit.now in
    let users = c.args.users.now in
    let list = c.loop-one.then.items in
    let rest = into_iter_items c.next.new.self in
    let n = length list in
    let user = c.index-users-len.result in
    let one = c.in_ok-masks_then.field-0 in
    let left : AreKeptBefore s e (drop n users) (c.in-Some.one ∷ rest) = subst (λ (l : List (Option UserMasks)). AreKeptBefore s e (drop n users) l) c.in-Some.ensures.steps.0 c.loop-one.invariant.0 in
    let head = head-kept left.0 users n c.in-Some.one rest left.3 in
    let place : c.len-in-loop-one.result ≡ n = omega (arith, c.len-in-loop-one.ensures, c.loop-one.then.ok.0) in
    let is : user ≡ get_or users n user = c.index-users-len.is ∙ ap (λ (k : ℕ). get_or users k user) place in
    let kept : AreKept s (get_or users n user) one = subst (λ (u : ℕ). AreKept s u one) is c.in_ok-masks_then.ensures in
    let longer : suc n ≡ length c.push.new.self.items = sym (ap (λ (l : List (Option UserMasks)). length l) c.in_ok-push.ensures.items ∙ (length_push list one ∙ omega arith)) in
    let each : EachKept s (take (suc n) users) c.push.new.self.items = subst (λ (l : List (Option UserMasks)). EachKept s (take (suc n) users) l) (sym c.in_ok-push.ensures.items)
    (next-kept s users n user list one head.0 c.loop-one.invariant.1 kept) in
    subst (λ (k : ℕ). AreKeptBefore s e (drop k users) rest × EachKept s (take k users) c.push.new.self.items) longer ((left.0, left.1, left.2, head.2), each)

pub returns : goal.returns
returns c =
    let s = c.args.guild.now in
    let users = c.args.users.now in
    let n = length c.loop-one.then.items in
    let list = into_iter_items c.loop-one.one-iterator in
    let none : list ≡ [] = none-left list (omega (arith, c.in-None.ensures.steps.0, c.loop-one.one-iterator.rest.ok.0)) in
    let left : AreKeptBefore s c.args.edit.now (drop n users) [] = subst (λ (l : List (Option UserMasks)). AreKeptBefore s c.args.edit.now (drop n users) l) none c.loop-one.invariant.0 in
    subst (λ (us : List ℕ). EachKept s us c.loop-one.then.items) (all-kept left.0 users n left.3) c.loop-one.invariant.1
