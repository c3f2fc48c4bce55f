use Rattle.std.proofs.Common.{rules}
use Rattle.std.specs.Prelude.{◌==◌, not}
use Rattle.std.proofs.lemmas.Fn.{filter_same}
use Rattle.guild_model.specs.declared.voice.Voice.{Voice}
use Rattle.client_cache.proofs.channels.drop_voices.Goals as goal

pub returns : goal.returns
returns c = filter_same _ (λ (voice : Voice). not (voice.channel == c.args.channel)) _ (λ x b f' k. search rules) _ _ c.retain.ensures.filtered
