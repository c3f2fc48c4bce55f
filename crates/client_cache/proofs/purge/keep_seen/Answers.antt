use Rattle.std.proofs.Common.{rules}
use Rattle.std.specs.Prelude.{is_some}
use Rattle.std.proofs.lemmas.Fn.{filter_same}
use Rattle.guild_model.specs.Sight.{sees_in}
use Rattle.dispatch_types.specs.declared.view.ThreadView.{ThreadView}
use Rattle.client_cache.proofs.purge.keep_seen.Goals as goal

pub returns : goal.returns
returns c = filter_same _ (λ (t : ThreadView). sees_in c.args.standing.now t.parent t.kind (is_some t.mine)) _ (λ x b f' k. search rules) _ _ c.retain.ensures.filtered
