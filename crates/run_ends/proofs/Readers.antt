-- Readers that have seen their logs to the end.
use Rattle.std.proofs.Common.{ℕ, List, [], ◌∷◌, subst}
use Rattle.std.specs.Prelude.{Option, Some, None, IsSomeAnd}
use Rattle.std.specs.List.{All, AllZip}
use Rattle.std.proofs.lemmas.List.Elements.{All-nil, All-cons}
use Rattle.guild_hub.specs.Logs.{Published, GoesOn}
use Rattle.guild_hub.specs.Sights.{Seeing}
use Rattle.load_settle.specs.Readers.{log_under, SeesToEnd, ReachesEnd}
use Rattle.run_ends.specs.Logs.{HasPart}

has_part : (o : Option Published) (before after : Seeing) → IsSomeAnd o (λ log. SeesToEnd log before after) → IsSomeAnd o (GoesOn before.log)
has_part None before after h = h
has_part (Some log) before after h = subst (GoesOn before.log) h.log h.steps.log

pub have_parts : (logs : List (ℕ × Published)) (before after : List (ℕ × Seeing)) → AllZip (ReachesEnd logs) before after → All (HasPart logs) before
have_parts logs [] [] h = All-nil (HasPart logs)
have_parts logs [] (r ∷ rs) h = elim h [ ]
have_parts logs (r ∷ rs) [] h = elim h [ ]
have_parts logs (r ∷ rs) (s ∷ ss) h = All-cons (HasPart logs) r rs (has_part (log_under r.0 logs) r.1 s.1 h.0.1) (have_parts logs rs ss h.1)
