-- What answers bring to a client, and what their chunks are.
use Rattle.std.specs.Prelude.{◌≡◌, ℕ, ◌≤◌, List, length, flat_map, false, not, ◌==◌, All}
use Rattle.std.specs.List.{range_with_len}
use Rattle.guild_model.specs.declared.member.Member.{Member}
use Rattle.guild_model.specs.Record.{Record}
use Rattle.guild_model.specs.Ascending.{IsWell}
use Rattle.gateway_frames.specs.declared.frame.Ask.{Ask}
use Rattle.dispatch_types.specs.declared.viewer.Viewer.{Viewer}
use Rattle.dispatch_types.specs.declared.dispatch.Dispatch.{Dispatch}
use Rattle.dispatch_types.specs.Projection.{projection}
use Rattle.dispatch_types.specs.Fold.{Held, purge, folded, fold_from}
use Rattle.member_chunks.specs.Answered.{is_answered, chunk_count, part, answered}

-- what a client holds of a guild after an answer
abbrev pub told : Record → Viewer → Ask → Held → Held
told s v ask h = fold_from v.intents s.id h (answered s v ask)

-- a client that holds the projection holds it after any answer, with the members that it then knows
abbrev pub AnswerKeeps : Type 0
AnswerKeeps = (s : Record) (v : Viewer) (ask : Ask) (h : Held) → IsWell s
    → h.view ≡ projection s v h.known
    → ((told s v ask h).bot ≡ h.bot)
    × ((told s v ask h).view ≡ projection s v (told s v ask h).known)

-- what a client holds of a guild after one chunk
abbrev pub chunk_told : Record → Viewer → Held → Dispatch → Held
chunk_told s v h d = folded v.intents s.id h d

-- and it holds it after each chunk of an answer, where the client may stop
abbrev pub EachChunkKeeps : Type 0
EachChunkKeeps = (s : Record) (v : Viewer) (ask : Ask) → IsWell s
    → All
    (λ d. (h : Held) → h.view ≡ projection s v h.known
    → ((chunk_told s v h d).bot ≡ h.bot)
    × ((chunk_told s v h d).view ≡ projection s v (chunk_told s v h d).known))
    (answered s v ask)

-- a chunk of another guild leaves a client that a purge leaves as it is
abbrev pub EachChunkStays : Type 0
EachChunkStays = (s : Record) (v : Viewer) (ask : Ask) (g : ℕ) → (s.id == g) ≡ false
    → All (λ d. (h : Held) → purge v.intents g h ≡ h → folded v.intents g h d ≡ h)
    (answered s v ask)

-- the chunks of a list are the list, each of at most 1,000
abbrev pub ChunksAreAll : Type 0
ChunksAreAll = (xs : List Member)
    → (flat_map (part xs) (range_with_len 0 (chunk_count xs)) ≡ xs)
    × ((index : ℕ) → length (part xs index) ≤ 1000)

-- an answer has a chunk exactly where there is one
abbrev pub AnswersSpeak : Type 0
AnswersSpeak = (s : Record) (v : Viewer) (ask : Ask)
    → (length (answered s v ask) == 0) ≡ not (is_answered s v ask)
