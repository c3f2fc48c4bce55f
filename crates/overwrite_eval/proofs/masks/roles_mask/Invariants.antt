use Rattle.std.proofs.Common.{◌≡◌, ℕ, take}
use Rattle.perm_bits.specs.Bits.{has_bit}
use Rattle.guild_model.specs.Permissions.{roles_have}
use Rattle.overwrite_eval.proofs.masks.roles_mask.Given as goal

abbrev pub invariant-loop-id : goal.invariant-loop-id
invariant-loop-id l = (b : ℕ) → has_bit l.mask b ≡ roles_have l.fn.guild l.roles (take l.id-index l.held) b
