use Rattle.std.proofs.Common.{◌≡◌, ◌≤◌, ℕ, List, ◌++◌, ◌∷◌, [], length}
use Rattle.std.specs.Prelude.{All}
use Rattle.guild_hub.specs.Sights.{Seeing}
use Rattle.run_stage.specs.Hubs.{Has}
use Rattle.run_stage.proofs.Turned.{Turns}
use Rattle.run_stage.proofs.hubs.add_to_each.Given as goal

abbrev pub invariant-loop-reader : goal.invariant-loop-reader
invariant-loop-reader l = record {
  many : length l.lists.items ≡ length l.fn.lists.items;
  enough : length l.left.items ≤ length l.lists.items;
  turns : (had : List (ℕ × Seeing)) (one : Seeing) → All (Has had) l.fn.lists.items → All (λ r. r ≡ one) l.fn.readers.items
      → All (λ r. r ≡ one) l.left.items × Turns (Has had) (Has (had ++ (l.fn.guild, one) ∷ [])) (length l.left.items) l.lists.items;
}

abbrev pub decreases-loop-reader : goal.decreases-loop-reader
decreases-loop-reader l = length l.left.items
