use Rattle.std.proofs.Common.{take}
use Rattle.guild_model.specs.Permissions.{is_of, is_held}
use Rattle.overwrite_eval.specs.Tiers.{Unites}
use Rattle.overwrite_eval.proofs.tiers.Tiers.of.Given as goal

abbrev pub invariant-loop-overwrite : goal.invariant-loop-overwrite
invariant-loop-overwrite l = record {
  everyone : Unites (is_of l.fn.guild) (take l.overwrite-index l.fn.overwrites.roles) l.everyone;
  held : Unites (is_held l.fn.member.roles) (take l.overwrite-index l.fn.overwrites.roles) l.held;
}
