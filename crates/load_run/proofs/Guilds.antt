-- The guilds of a load ascend.
use Rattle.std.proofs.Common.{ℕ, zero, suc, ◌+◌, ◌<◌, map, arith}
use Rattle.std.specs.List.{range_with_len}
use Rattle.collections.specs.ById.{IsById, AllAbove}
use Rattle.load_maker.specs.Edits.{guild_id}
use Rattle.gate_ends.proofs.Writers.{itself}

above : (k j n : ℕ) → k < j → AllAbove itself (guild_id k) (map guild_id (range_with_len j n))
above k j zero lt = tt
above k j (suc n) lt = (omega (arith, lt), above k (j + 1) n (omega (arith, lt)))

pub ids_ascend : (k n : ℕ) → IsById itself (map guild_id (range_with_len k n))
ids_ascend k zero = tt
ids_ascend k (suc n) = (above k (k + 1) n (omega arith), ids_ascend (k + 1) n)
