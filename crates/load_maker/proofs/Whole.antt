-- The lines of a part are the head lines and then those of the entries.
use Rattle.std.proofs.Common.{◌≡◌, ℕ, List, ◌++◌, ap, ◌∙◌}
use Rattle.std.specs.Prelude.{flat_map}
use Rattle.std.specs.List.{range_with_len}
use Rattle.edit_text.specs.declared.line.Line.{Line}
use Rattle.load_maker.specs.Script.{head, both_lines, script}

pub whole : (seed part : ℕ) (old new : List Line) → old ≡ head → new ≡ old ++ flat_map (both_lines seed part) (range_with_len 0 1001) → new ≡ script seed part
unfolding script
whole seed part old new heads entries =
    entries ∙ ap (λ (ls : List Line). ls ++ flat_map (both_lines seed part) (range_with_len 0 1001)) heads
