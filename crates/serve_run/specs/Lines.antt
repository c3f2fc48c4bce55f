-- The lines that a run of `serve` writes.
use Rattle.std.specs.Prelude.{ℕ, List, [], ◌∷◌, ◌++◌, map, flat_map, decimal, codes}
use Rattle.std.specs.List.{range_with_len}
use Rattle.std.specs.Option.{option_map_or}
use Rattle.edit_fields.specs.declared.fault.LineFault.{LineFault}
use Rattle.line_faults.specs.Faults.{fault_number, fault_name}
use Rattle.guild_hub.specs.Logs.{Published}
use Rattle.load_settle.specs.Readers.{log_under}
use Rattle.log_summary.specs.Summary.{guild_text}
use Rattle.serve_stage.specs.Urls.{worker_url}

-- worker W URL
abbrev pub worker_line : ℕ → ℕ → List ℕ
worker_line port number = codes "worker " ++ (decimal number ++ (codes " " ++ (worker_url port number ++ 10 ∷ [])))

-- a line for each of so many workers, from 0
abbrev pub worker_lines : ℕ → ℕ → List ℕ
worker_lines port count = flat_map (worker_line port) (range_with_len 0 count)

-- the line of a guild, by its log
abbrev pub line_of : List (ℕ × Published) → ℕ → List ℕ
line_of logs guild = option_map_or (λ log. guild_text (guild, log)) (log_under guild logs) []

-- a line for each guild, in their order
abbrev pub guild_lines : List (ℕ × Published) → List ℕ → List ℕ
guild_lines logs guilds = flat_map (line_of logs) guilds

-- strays N
abbrev pub strays_line : ℕ → List ℕ
strays_line strays = codes "strays " ++ (decimal strays ++ 10 ∷ [])

-- stop file F line N NUMBER NAME
abbrev pub stop_line : ℕ → ℕ → LineFault → List ℕ
stop_line file line fault = codes "stop file " ++ (decimal file ++ (codes " line " ++ (decimal line ++ (codes " " ++ (decimal (fault_number fault) ++ (codes " " ++ (fault_name fault ++ 10 ∷ [])))))))
