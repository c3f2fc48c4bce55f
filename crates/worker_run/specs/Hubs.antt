-- What readers of hubs have seen, and which inputs they make.
use Rattle.std.specs.Prelude.{◌≡◌, ℕ, List, [], ◌∷◌, ◌++◌, true, false, ◌==◌, if◌then◌else◌, IfSome, length, take, drop}
use Rattle.std.specs.List.{find, AllZip}
use Rattle.std.specs.Option.{option_map_or}
use mathlib.Core.List.{IsPrefix}
use Rattle.edit_apply.specs.Edits.{state}
use Rattle.edit_apply.specs.declared.Edit.{Edit}
use Rattle.guild_hub.specs.Logs.{GoesOn, trimmed}
use Rattle.guild_hub.specs.Sights.{Segment, Seeing, Fits, segment, end_of, unseen, with_more, has_quit}
use Rattle.guild_places.specs.Places.{has_guild}
use Rattle.world_law.specs.Inputs.{Input, Look, Rebase}
use Rattle.worker_run.specs.Turns.{looked_at}

-- a log from the first entry that is kept of it
abbrev pub kept_part : ℕ → List Edit → Segment
kept_part g log = segment (trimmed (length log)) (state g (take (trimmed (length log)) log)) (drop (trimmed (length log)) log)

-- what a reader has seen since it last began from a record, after an input
abbrev pub seen_by : ℕ → Segment → Input → Segment
seen_by g s (Look h es) = if h == g then with_more s es else s
seen_by g s (Rebase h log) = if h == g then kept_part g log else s
seen_by g s _ = s

-- the same after several inputs
abbrev pub seen_by_all : ℕ → Segment → List Input → Segment
seen_by_all g s [] = s
seen_by_all g s (i ∷ is) = seen_by_all g (seen_by g s i) is

-- the entries of a guild's log that were handled, after an input
abbrev pub handled_by : ℕ → List Edit → Input → List Edit
handled_by g done (Look h es) = if h == g then done ++ es else done
handled_by g done (Rebase h log) = if h == g then log else done
handled_by g done _ = done

-- the same after several inputs
abbrev pub handled_by_all : ℕ → List Edit → List Input → List Edit
handled_by_all g done [] = done
handled_by_all g done (i ∷ is) = handled_by_all g (handled_by g done i) is

-- each of these inputs goes on in one log where the ones before stopped
abbrev pub AreInOrder : ℕ → List Edit → List Input → List Edit → Type 0
AreInOrder g done [] log = IsPrefix done log
AreInOrder g done (i ∷ is) log = IsPrefix done (handled_by g done i) × AreInOrder g (handled_by g done i) is log

-- what a reader has seen or passed over
abbrev pub passed : Seeing → List Edit
passed r = take (end_of r.last) r.log.entries

-- a reader that has made these inputs of its guild
pub record Reads (is : List Input) (old new : ℕ × Seeing) : Type 0 where
  pub guild : new.0 ≡ old.0
  pub hub : new.1.log.hub ≡ old.1.log.hub
  pub last : new.1.last ≡ seen_by_all old.0 old.1.last is
  pub passes : passed new.1 ≡ handled_by_all old.0 (passed old.1) is
  pub order : AreInOrder old.0 (passed old.1) is new.1.log.entries
  pub log : GoesOn old.1.log new.1.log
  pub fits : Fits new.1.last new.1.log
  pub mark : new.1.mark ≡ old.1.mark
  pub quit : has_quit old.1 ≡ true → has_quit new.1 ≡ true

-- a reader of its own guild's hub, whose last segment is a part of the log that it knows
abbrev pub IsReader : ℕ × Seeing → Type 0
IsReader r = (r.1.log.hub.guild ≡ r.0) × Fits r.1.last r.1.log

-- each reader has made those of these inputs that are of its guild
abbrev pub AllRead : List Input → List (ℕ × Seeing) → List (ℕ × Seeing) → Type 0
AllRead is olds news = AllZip (Reads is) olds news

-- the logs as the readers know them
abbrev pub logs_of : List (ℕ × Seeing) → ℕ → List Edit
logs_of readers g = option_map_or (λ (r : ℕ × Seeing). r.1.log.entries) (find (λ (r : ℕ × Seeing). r.0 == g) readers) []

-- a reader that has seen a log to its seal
abbrev pub HasSeenAll : ℕ × Seeing → Type 0
HasSeenAll r = (r.1.log.sealed ≡ true) × (end_of r.1.last ≡ length r.1.log.entries)

-- a reader that has not looked
abbrev pub IsUnread : ℕ × Seeing → Type 0
IsUnread r = r.1.last ≡ unseen r.1.log.hub

-- ---- guilds

-- the guild stands in the list
abbrev pub IsAmong : List ℕ → ℕ → Type 0
IsAmong guilds g = has_guild g guilds ≡ true

-- where the input is about a log, it is about that of one of these guilds
abbrev pub IsAbout : List ℕ → Input → Type 0
IsAbout guilds i = IfSome (looked_at i) (IsAmong guilds)

-- where the input is about a log, it is about that of another guild
abbrev pub IsApart : ℕ → Input → Type 0
IsApart g i = IfSome (looked_at i) (λ h. (h == g) ≡ false)
