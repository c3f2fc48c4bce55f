use Rattle.std.proofs.Common.{◌≡◌, ◌∙◌, ◌≤◌, List, [], ◌∷◌, ◌++◌, map, length, sym, ap}
use Rattle.std.proofs.Common.{Global, Vec}
use Rattle.std.proofs.lemmas.List.{map-append}
use Rattle.std.proofs.lemmas.List.Elements.{All-push, All-same, All-pop}
use Rattle.edit_post.specs.Post.{Sender}
use Rattle.run_ends.specs.Senders.{HaveEnded, AreTakenWhole}
use Rattle.run_ends.proofs.Ending.{All-first, All-last}
use Rattle.run_ends.proofs.passes.sent_of.Goals as goal

pub loop-passes-preserved : goal.loop-passes-preserved
loop-passes-preserved c =
    let at = c.loop-passes in
    let rest : List (Vec Sender Global) = c.pop.new.self.items in
    let own : List Sender = c.in-Some.passes.items in
    let shown : List (Vec Sender Global) → List (List Sender) = map (λ passes. passes.items) in
    let parts : shown at.senders.items ≡ shown rest ++ own ∷ [] = ap shown c.in-Some.ensures.items ∙ map-append (λ passes. passes.items) rest (c.in-Some.passes ∷ []) in
    record {
      few = (All-pop (λ passes. length passes.items ≤ 256) at.senders.items rest c.pop.result c.pop.ensures.items at.invariant.few).0;
      ended = λ posts all.
          let old = at.invariant.ended posts all in
          let here = All-same (HaveEnded posts) (shown rest ++ own ∷ []) (shown at.senders.items) (sym parts) old.0 in
          (All-first (HaveEnded posts) (shown rest) (own ∷ []) here, c.in_ok-add_passes.ensures.ended posts (All-last (HaveEnded posts) (shown rest) own here) old.1);
      whole = λ taken all left.
          let own_whole = c.in_ok-add_passes.ensures.whole taken all in
          at.invariant.whole taken own_whole.0
          (All-same (AreTakenWhole taken) (shown at.senders.items) (shown rest ++ own ∷ []) parts (All-push (AreTakenWhole taken) (shown rest) own left own_whole.1));
    }
