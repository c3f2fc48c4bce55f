use Rattle.std.proofs.Common.{rules, ◌≡◌, ◌∙◌, ℕ, ◌+◌, List, [], ◌∷◌, ◌++◌, length, sym, ap, subst, arith, append-nil, append_assoc, length-append}
use Rattle.std.proofs.lemmas.List.Elements.{All-push, All-same}
use Rattle.edit_post.specs.Post.{Sender}
use Rattle.load_settle.specs.Passes.{HasEndedAt, IsTakenWhole}
use Rattle.run_ends.specs.Senders.{HaveEnded}
use Rattle.run_ends.proofs.Ending.{WholeFrom, ended_at, whole_from, whole_past, All-first, All-last}
use Rattle.run_ends.proofs.passes.add_passes.Goals as goal

pub loop-pass-init : goal.loop-pass-init
loop-pass-init c = record {
  few = c.requires;
  parts = ([], sym (append-nil c.args.passes.items));
  ended = λ posts have all. all;
  whole = λ taken all. (all, whole_past taken c.args.passes.items);
}

pub loop-pass-preserved : goal.loop-pass-preserved
loop-pass-preserved c =
    let at = c.loop-pass in
    let rest : List Sender = c.pop.new.self.items in
    let pass : Sender = c.in-Some.pass in
    let done : List Sender = at.invariant.parts.0 in
    let popped : at.passes.items ≡ rest ++ pass ∷ [] = c.in-Some.ensures.items in
    let parts : c.args.passes.items ≡ rest ++ pass ∷ done = at.invariant.parts.1 ∙ ap (λ l. l ++ done) popped ∙ append_assoc rest (pass ∷ []) done in
    let fewer : length at.passes.items ≡ length rest + 1 = ap length popped ∙ length-append rest (pass ∷ []) in
    let number : c.len-place.result ≡ length rest = search rules in
    let added : c.push.new.self.items ≡ at.sent.items ++ (length rest, pass) ∷ [] = c.in_ok-push.ensures.items ∙ ap (λ (n : ℕ). at.sent.items ++ (n, pass) ∷ []) number in
    record {
      few = omega (arith, at.invariant.few, fewer);
      parts = (pass ∷ done, parts);
      ended = λ posts have all.
          All-same (HasEndedAt posts) c.push.new.self.items (at.sent.items ++ (length rest, pass) ∷ []) added
          (All-push (HasEndedAt posts) at.sent.items (length rest, pass) (at.invariant.ended posts have all) (ended_at posts rest done pass (subst (λ ps. HaveEnded posts ps) parts have)));
      whole = λ taken all.
          let here = All-same (IsTakenWhole taken) (at.sent.items ++ (length rest, pass) ∷ []) c.push.new.self.items (sym added) all in
          let old = at.invariant.whole taken (All-first (IsTakenWhole taken) at.sent.items ((length rest, pass) ∷ []) here) in
          let later = subst (λ ps. WholeFrom taken ps (length rest + 1)) parts (subst (λ n. WholeFrom taken c.args.passes.items n) fewer old.1) in
          (old.0, subst (λ ps. WholeFrom taken ps (length rest)) (sym parts) (whole_from taken rest done pass (All-last (IsTakenWhole taken) at.sent.items (length rest, pass) here) later));
    }
