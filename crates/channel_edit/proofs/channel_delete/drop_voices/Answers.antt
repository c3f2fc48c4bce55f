use Rattle.std.proofs.Common.{rules}
use Rattle.std.proofs.lemmas.Fn.{filter_same}
use Rattle.channel_edit.specs.ChannelEnd.{speaks_outside}
use Rattle.channel_edit.proofs.channel_delete.drop_voices.Goals as goal

pub returns-clause-outside : goal.returns-clause-outside
returns-clause-outside c = filter_same _ (speaks_outside c.args.channel) _ (λ x b f' k. search rules) _ _ c.retain.ensures.filtered
