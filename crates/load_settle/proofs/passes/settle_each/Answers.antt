use Rattle.std.proofs.Common.{◌∙◌, sym, subst}
use Rattle.std.specs.Prelude.{List, ℕ, All}
use Rattle.std.proofs.lemmas.List.Elements.{All-pop, All-push}
use Rattle.edit_post.specs.Post.{Sender, Taker}
use Rattle.load_settle.specs.Passes.{HasEndedAt, IsTakenWhole}
use Rattle.load_settle.proofs.passes.settle_each.Goals as goal

pub loop-place-preserved : goal.loop-place-preserved
loop-place-preserved g c =
    let taken = c.args.taken.now in
    let settled : IsTakenWhole taken (c.in-Some.place, c.in-Some.pass) = subst (λ (t : List Taker). IsTakenWhole t (c.in-Some.place, c.in-Some.pass)) c.loop-place.invariant.same c.settle_at.ensures.whole in record {
      same = c.settle_at.ensures.same ∙ c.loop-place.invariant.same;
      ended = (All-pop (HasEndedAt c.args.posts.now) c.loop-place.sent.items c.pop.new.self.items c.pop.result c.pop.ensures.items c.loop-place.invariant.ended).0;
      whole = λ rest. c.loop-place.invariant.whole (subst (λ (sent : List (ℕ × Sender)). All (IsTakenWhole taken) sent) (sym c.in-Some.ensures.items) (All-push (IsTakenWhole taken) c.pop.new.self.items (c.in-Some.place, c.in-Some.pass) rest settled));
    }
