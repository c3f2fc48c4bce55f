use Rattle.std.proofs.Common.{get_or, rules, ◌≡◌, ◌<◌, ◌∙◌, ◌+◌, ◌++◌, ℕ, List, sym, subst, arith}
use Rattle.std.specs.List.{All}
use Rattle.edit_post.specs.declared.request.Request.{Request}
use Rattle.edit_post.specs.Post.{looked, NotStored}
use Rattle.edit_post.proofs.Looks.{one_look, one_unstored}
use Rattle.edit_post.proofs.Merging.{merges}
use Rattle.edit_post.proofs.post.Post.ended.Goals as goal

pub loop-sender-preserved : goal.loop-sender-preserved
loop-sender-preserved g c =
    let last = c.loop-sender.invariant in
    let now = c.has_ended.ensures in
    let is : c.from.result ≡ c.loop-sender.sender = search rules in
    let base = c.args.pass.now.looks in
    let before = c.args.pass.now.found in
    let unlooked = last.later c.from.result (omega (arith, is)) in
    let found = c.has_ended.new.pass.found in
    let looks : c.has_ended.new.pass.looks ≡ base ++ looked (c.from.result + 1) before found =
    one_look before found c.loop-sender.pass.found base c.loop-sender.pass.looks c.has_ended.new.pass.looks c.from.result
    (subst (λ (k : ℕ). c.loop-sender.pass.looks ≡ base ++ looked k before c.loop-sender.pass.found) (sym is) last.looks)
    now.others (λ ne. (now.kept (λ z. ne (sym unlooked ∙ z))).0) (λ z. now.looked (unlooked ∙ z)) in record {
      post = now.same.0 ∙ last.post;
      senders = now.same.1 ∙ last.senders;
      taken = now.same.2 ∙ last.taken;
      empty_takes = now.same.3 ∙ last.empty_takes;
      kept = search rules;
      later = λ p le. now.others p (λ e. absurd (omega (arith, is))) ∙ last.later p (omega arith);
      looks = subst (λ (k : ℕ). c.has_ended.new.pass.looks ≡ base ++ looked (k + 1) before found) is looks;
      unstored = subst (λ (k : ℕ). (p : ℕ) → p < k + 1 → get_or found p 0 ≡ 0 → NotStored p (base ++ looked (p + 1) before found)) is
          (one_unstored before found c.loop-sender.pass.found base c.from.result now.others (λ p lt. last.unstored p (omega (arith, is)))
          (λ none. subst (λ l. NotStored c.from.result l) looks (now.unstored none)));
      ended = search rules;
    }

pub returns-clause-merge : goal.returns-clause-merge
returns-clause-merge g c _ =
    let last = c.loop-sender.invariant in
    merges (λ (r : Request). r.sender) c.loop-sender.pass.senders c.loop-sender.pass.taken
    (subst (λ (rs : List Request). All (λ (r : Request). r.sender < c.loop-sender.pass.senders) rs) (sym last.taken) (subst (λ (n : ℕ). All (λ (r : Request). r.sender < n) c.args.pass.now.taken) (sym last.senders) c.senders-sender-end.ensures.low))
