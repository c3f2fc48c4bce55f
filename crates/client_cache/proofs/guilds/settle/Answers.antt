use Rattle.std.proofs.Common.{ℕ, false, rules, ◌∙◌}
use Rattle.std.proofs.lemmas.Fn.{filter_same}
use Rattle.client_cache.proofs.Settled.{none-kept}
use Rattle.client_cache.proofs.guilds.settle.Goals as goal

pub returns : goal.returns
returns c = filter_same _ (λ (id : ℕ). false) _ (λ x b f' k. search rules) _ _ c.retain.ensures.filtered ∙ none-kept c.args.unsettled.now
