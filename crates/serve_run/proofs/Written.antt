-- The lines of a run, line by line.
use Rattle.std.proofs.Common.{◌≡◌, ℕ, zero, suc, ◌+◌, List, [], ◌++◌, flat_map, Option, sym, ap, ◌∙◌, arith, append_assoc, append-nil, add-zero, add-one}
use Rattle.std.specs.Prelude.{option_map, slice_get}
use Rattle.std.specs.Option.{option_map_or}
use Rattle.std.specs.List.{range_with_len}
use Rattle.collections.specs.ById.{IsById, count_below, with_id}
use Rattle.collections.proofs.Ids.{find_at_place}
use Rattle.guild_hub.specs.Logs.{Published}
use Rattle.log_summary.specs.Summary.{guild_text}
use Rattle.gate_ends.proofs.Writers.{Log, guild_of}
use Rattle.serve_run.specs.Lines.{worker_line, worker_lines, line_of}

one_more_of : {X : Type 0} (f : ℕ → List X) (k n : ℕ) → flat_map f (range_with_len k (suc n)) ≡ flat_map f (range_with_len k n) ++ f (k + n)
one_more_of f k zero = append-nil (f k) ∙ ap f (sym (add-zero k))
one_more_of f k (suc n) =
    ap (λ l. f k ++ l) (one_more_of f (k + 1) n ∙ ap (λ i. flat_map f (range_with_len (k + 1) n) ++ f i) (omega (arith)))
    ∙ sym (append_assoc (f k) (flat_map f (range_with_len (k + 1) n)) (f (k + suc n)))

-- the line of one worker more
pub one_line_more : (port n : ℕ) (old new : List ℕ) → old ≡ worker_lines port n → new ≡ old ++ worker_line port n → new ≡ worker_lines port (n + 1)
one_line_more port n old new o e =
    let one : n + 1 ≡ suc n = add-one n in
    rw one (e ∙ ap (λ l. l ++ worker_line port n) o ∙ ap (λ i. worker_lines port n ++ worker_line port i) (omega (arith)) ∙ sym (one_more_of (worker_line port) 0 n))

-- the line of a guild, by what stands at its place
pub line_is : (logs : List Log) (guild : ℕ) (found : Option Published) (place : ℕ) → IsById guild_of logs → place ≡ count_below guild_of guild logs
    → found ≡ option_map (λ log. log.1) (with_id guild_of guild (slice_get logs place)) → line_of logs guild ≡ option_map_or (λ log. guild_text (guild, log)) found []
line_is logs guild found place up at is =
    ap (λ o. option_map_or (λ log. guild_text (guild, log)) o [])
    (sym (is ∙ ap (λ p. option_map (λ log. log.1) (with_id guild_of guild (slice_get logs p))) at ∙ ap (option_map (λ log. log.1)) (find_at_place guild_of guild logs up)))
