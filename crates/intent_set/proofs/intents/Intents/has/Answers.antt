use Rattle.std.proofs.Common.{◌∙◌}
use Rattle.perm_bits.proofs.BitSets.{contained, has_one}
use Rattle.intent_set.proofs.intents.Intents.has.Goals as goal

pub returns-clause-every : goal.returns-clause-every
returns-clause-every c =
    rw (c.contains.ensures tt, ← c.self.view_is, ← c.intents.view_is) (contained c.self.inside.0.0 c.intents.inside.0.0)

pub returns-clause-one : goal.returns-clause-one
returns-clause-one c =
    λ b is.
    rw (c.contains.ensures tt, ← c.self.view_is)
    (has_one c.self.inside.0.0 c.intents.inside.0.0 b (c.intents.view_is ∙ is))
