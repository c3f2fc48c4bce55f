use Rattle.std.proofs.Common.{sym, ◌∙◌}
use Rattle.client_cache.proofs.Lists.{known-same}
use Rattle.client_cache.proofs.known.with_user.Goals as goal

pub returns-then-is_known : goal.returns-then-is_known
returns-then-is_known c = sym (known-same c.args.user c.args.known.now c.as_slice-known.ensures.ascending (sym c.is_known.ensures ∙ c.if-is_known.true))
