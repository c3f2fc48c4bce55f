use Rattle.std.proofs.Common.{rules}
use Rattle.std.specs.Prelude.{◌==◌, not}
use Rattle.std.proofs.lemmas.Fn.{filter_same}
use Rattle.dispatch_types.specs.declared.view.ThreadView.{ThreadView}
use Rattle.client_cache.proofs.channels.drop_threads.Goals as goal

pub returns : goal.returns
returns c = filter_same _ (λ (t : ThreadView). not (t.parent == c.args.channel)) _ (λ x b f' k. search rules) _ _ c.retain.ensures.filtered
