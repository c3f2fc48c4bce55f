-- The summary of a load, line by line.
use Rattle.std.specs.Prelude.{ℕ, ◌+◌, List, [], ◌∷◌, ◌++◌, length, flat_map, sum_by, decimal, codes}
use Rattle.guild_hub.specs.Logs.{Published}
use Rattle.log_summary.specs.declared.counts.Counts.{Counts}
use Rattle.log_summary.specs.Counts.{counts_of}

-- load SEED
abbrev pub head_line : ℕ → List ℕ
head_line seed = codes "load " ++ (decimal seed ++ 10 ∷ [])

-- guild ID entries N accepted N members N roles N channels N active N archived N
abbrev pub guild_line : ℕ → Counts → List ℕ
guild_line guild c =
    codes "guild " ++ (decimal guild
    ++ (codes " entries " ++ (decimal c.entries
    ++ (codes " accepted " ++ (decimal c.accepted
    ++ (codes " members " ++ (decimal c.members
    ++ (codes " roles " ++ (decimal c.roles
    ++ (codes " channels " ++ (decimal c.channels
    ++ (codes " active " ++ (decimal c.active
    ++ (codes " archived " ++ (decimal c.archived ++ 10 ∷ [])))))))))))))))

-- the line of a guild and its log
abbrev pub guild_text : ℕ × Published → List ℕ
guild_text entry = guild_line entry.0 (counts_of entry.1)

-- session I agree N
abbrev pub session_line : ℕ → ℕ → List ℕ
session_line number agree = codes "session " ++ (decimal number ++ (codes " agree " ++ (decimal agree ++ 10 ∷ [])))

-- a line for each client, from this number on
abbrev pub sessions_text : ℕ → List ℕ → List ℕ
sessions_text number [] = []
sessions_text number (agree ∷ agrees) = session_line number agree ++ sessions_text (number + 1) agrees

-- done N
abbrev pub done_line : ℕ → List ℕ
done_line entries = codes "done " ++ (decimal entries ++ 10 ∷ [])

-- the entries of all logs
abbrev pub entries_of : List (ℕ × Published) → ℕ
entries_of logs = sum_by (λ (entry : ℕ × Published). length entry.1.entries) logs

abbrev pub summary_text : ℕ → List (ℕ × Published) → List ℕ → List ℕ
summary_text seed logs agrees = head_line seed ++ (flat_map guild_text logs ++ (sessions_text 0 agrees ++ done_line (entries_of logs)))
