use Rattle.std.proofs.Common.{◌≡◌, map, take}
use Rattle.client_cache.specs.Cached.{unavailable_entry}
use Rattle.client_cache.proofs.guilds.unavailable_entries.Given as goal

abbrev pub invariant-loop-id : goal.invariant-loop-id
invariant-loop-id l = l.entries.items ≡ map (unavailable_entry l.fold.intents) (take l.id-index l.ids)
