use Rattle.std.proofs.Common.{◌≡◌, take}
use Rattle.guild_places.specs.Places.{guilds_of}
use Rattle.guild_places.proofs.index_of.Given as goal

abbrev pub invariant-loop-thing : goal.invariant-loop-thing
invariant-loop-thing g l = l.index.keys ≡ take l.thing-index (guilds_of l.fn.things)
