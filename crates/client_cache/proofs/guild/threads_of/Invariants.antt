use Rattle.std.proofs.Common.{◌≡◌, ◌++◌, map, length}
use Rattle.std.specs.Vec.Iter.{into_iter_items, into_iter_len}
use Rattle.dispatch_types.specs.Fold.{joined_thread}
use Rattle.client_cache.proofs.guild.threads_of.Given as goal

-- what is made, and what is still to be made of the rest, is what was to be made from the start
abbrev pub invariant-loop-object : goal.invariant-loop-object
invariant-loop-object l = (l.threads.items ++ map (joined_thread l.fold.intents l.fold.bot) (into_iter_items l.object-iterator) ≡ map (joined_thread l.fold.intents l.fold.bot) (into_iter_items l.initial.object-iterator))
    × (into_iter_len l.object-iterator ≡ length (into_iter_items l.object-iterator))
