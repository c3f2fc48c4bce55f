use Rattle.perm_bits.proofs.BitSets.{has_one}
use Rattle.client_hooks.specs.Kinds.{place}
use Rattle.client_hooks.proofs.kind_set.KindSet.has.Goals as goal

pub returns : goal.returns
returns c = rw (← c.self.view_is) (has_one c.self.inside.0 c.bit-bit.result (place c.args.kind) c.bit-bit.ensures)
