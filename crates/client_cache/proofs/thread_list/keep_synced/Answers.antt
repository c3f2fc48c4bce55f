use Rattle.std.proofs.Common.{rules}
use Rattle.std.specs.Prelude.{not, ◌||◌}
use Rattle.std.proofs.lemmas.Fn.{filter_same}
use Rattle.collections.specs.ById.{has_id}
use Rattle.guild_model.specs.Record.{own_id}
use Rattle.dispatch_types.specs.declared.view.ThreadView.{ThreadView}
use Rattle.client_cache.proofs.thread_list.keep_synced.Goals as goal

pub returns : goal.returns
returns c =
    filter_same _ (λ (t : ThreadView). not (has_id own_id t.parent c.args.parents.now) || has_id own_id t.id c.args.listed.now) _ (λ x b f' k. search rules) _ _ c.retain.ensures.filtered
