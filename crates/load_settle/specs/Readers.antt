-- What readers have seen of sealed logs, before and after they see them to the end.
use Rattle.std.specs.Prelude.{◌≡◌, ◌⊎◌, ℕ, List, [], ◌∷◌, ◌++◌, Bool, true, Option, option_map, IsSomeAnd, nat_lt, if◌then◌else◌, drop, length}
use Rattle.collections.specs.ById.{find_id}
use Rattle.guild_hub.specs.Logs.{Published, GoesOn, base_of, record_after}
use Rattle.guild_hub.specs.Marks.{EndsWithLoad}
use Rattle.guild_hub.specs.Sights.{Segment, Seeing, Fits, segment, end_of, with_more, has_quit}
use Rattle.guild_hub.specs.Looks.{StepsTo}

-- the log under a guild
abbrev pub log_under : ℕ → List (ℕ × Published) → Option Published
log_under guild logs = option_map (λ log. log.1) (find_id (λ log. log.0) guild logs)

-- the sealed log of a reader's hub
abbrev pub IsLogOf : Seeing → Published → Type 0
IsLogOf reader log = (log.hub ≡ reader.log.hub) × (log.sealed ≡ true)

-- the sealed log of the reader's hub stands under the reader's guild
abbrev pub HasLog : List (ℕ × Published) → ℕ × Seeing → Type 0
HasLog logs reader = IsSomeAnd (log_under reader.0 logs) (IsLogOf reader.1)

-- some of the entries that follow what was seen are no longer kept
abbrev pub lags : Published → Segment → Bool
lags log seen = nat_lt (end_of seen) (base_of log)

-- what a reader has seen since it last began from a record, once it has seen the whole log: also the entries that follow,
-- where all of these are kept; else those that are kept, from the record before them on
abbrev pub seen_whole : Published → Segment → Segment
seen_whole log seen =
    if lags log seen
    then segment (base_of log) (record_after log (base_of log)) (drop (base_of log) log.entries)
    else with_more seen (drop (end_of seen) log.entries)

-- what the reader's steps on the hub found: the log once, and where the look lags once more
abbrev pub found_whole : Published → Segment → List Published
found_whole log seen = if lags log seen then log ∷ log ∷ [] else log ∷ []

-- the reader has looked once, has rebased where the look lagged, and has now seen the log to its end
pub record SeesToEnd (whole : Published) (before after : Seeing) : Type 0 where
  pub steps : StepsTo before after
  pub load : EndsWithLoad before.mark_steps after.mark_steps
  pub enters : after.enters ≡ before.enters ++ found_whole whole before.last
  pub log : after.log ≡ whole
  pub last : after.last ≡ seen_whole whole before.last
  pub fits : Fits after.last whole
  pub reaches : end_of after.last ≡ length whole.entries

-- the reader has seen what it had seen; of the log and of the mark it knows what it knew, or more
pub record Stays (before after : Seeing) : Type 0 where
  pub last : after.last ≡ before.last
  pub log : GoesOn before.log after.log
  pub mark : after.mark ≡ before.mark
  pub quit : has_quit before ≡ true → has_quit after ≡ true

-- a reader is of the same guild after it, and has seen the log under that guild to its end
abbrev pub ReachesEnd : List (ℕ × Published) → ℕ × Seeing → ℕ × Seeing → Type 0
ReachesEnd logs before after = (after.0 ≡ before.0) × IsSomeAnd (log_under before.0 logs) (λ log. SeesToEnd log before.1 after.1)

-- the same, or it has seen what it had seen
abbrev pub ReachesEndOrStays : List (ℕ × Published) → ℕ × Seeing → ℕ × Seeing → Type 0
ReachesEndOrStays logs before after = ReachesEnd logs before after ⊎ ((after.0 ≡ before.0) × Stays before.1 after.1)
