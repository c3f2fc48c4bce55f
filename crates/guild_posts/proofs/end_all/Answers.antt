use Rattle.std.proofs.Common.{◌≡◌, ◌+◌, ◌∙◌, ◌<◌, suc, length, arith, get_or, ap, sym, subst}
use Rattle.collections.proofs.Edits.{changed_front, one_more_changed}
use Rattle.edit_post.specs.Post.{Sender, after_end}
use Rattle.guild_posts.proofs.Sending.{post_at, at_front}
use Rattle.guild_posts.proofs.end_all.Goals as goal

pub end-requires-clause-post : goal.end-requires-clause-post
end-requires-clause-post g c =
    let xs = c.args.passes.now.items in
    let k = c.loop-place.place in
    let d = c.pass-item.result in
    let lt : k < length xs = subst (λ l. k < length l) c.deref_mut-pass-items.ensures.value c.loop-place-test.true in
    ap (λ l. (get_or l k d).post) c.loop-place.invariant
    ∙ ap (λ (s : Sender). s.post) (at_front after_end xs k d lt)
    ∙ post_at c.args.posts.now xs k d c.index-posts-place.result c.requires lt
    ∙ sym c.index-posts-place.is

pub end-requires-clause-open : goal.end-requires-clause-open
end-requires-clause-open g c =
    let xs = c.args.passes.now.items in
    let k = c.loop-place.place in
    let d = c.pass-item.result in
    let lt : k < length xs = subst (λ l. k < length l) c.deref_mut-pass-items.ensures.value c.loop-place-test.true in
    ap (λ l. (get_or l k d).mark) c.loop-place.invariant ∙ ap (λ (s : Sender). s.mark) (at_front after_end xs k d lt) ∙ c.requires.unended k d lt

pub loop-place-preserved : goal.loop-place-preserved
loop-place-preserved g c =
    let xs = c.args.passes.now.items in
    let k = c.loop-place.place in
    let lt : k < length xs = subst (λ l. k < length l) c.deref_mut-pass-items.ensures.value c.loop-place-test.true in
    let next : k + 1 ≡ suc k = omega arith in
    let now : c.end.new.pass ≡ after_end (get_or (changed_front after_end k xs) k c.pass-item.result) = rw c.loop-place.invariant at c.end.ensures in
    rw c.loop-place.invariant (one_more_changed after_end xs k (k + 1) c.pass-item.result _ next lt now)
