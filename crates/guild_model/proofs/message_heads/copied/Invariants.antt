use Rattle.std.proofs.Common.{◌≡◌, ◌++◌}
use Rattle.guild_model.proofs.message_heads.copied.Given as goal

-- those that were copied with those still to come are the whole
abbrev pub invariant-loop-id : goal.invariant-loop-id
invariant-loop-id l = (l.copy.entries ++ l.id-iterator ≡ l.heads.entries) × (l.copy.cap ≡ 16384)
