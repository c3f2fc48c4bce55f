use Rattle.std.proofs.Common.{◌≡◌, ◌+◌, ◌∷◌, [], ◌++◌, sym, ◌∙◌, arith}
use Rattle.std.proofs.lemmas.List.FromFn.{map-range_with_len_more}
use Rattle.load_stage.specs.Bots.{load_bot}
use Rattle.load_stage.proofs.bots.bots.Goals as goal

pub loop-before-preserved : goal.loop-before-preserved
loop-before-preserved c =
    let before = c.loop-before.before in
    c.in_ok-push.ensures.items ∙ (λ i. c.loop-before.invariant i ++ c.in_ok-bot.ensures i ∷ []) ∙ sym (map-range_with_len_more load_bot 1 before (before + 1) (omega arith))
