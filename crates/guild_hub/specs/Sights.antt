-- What a reader has seen since it last began from a record.
use Rattle.std.specs.Prelude.{◌≡◌, ℕ, ◌+◌, ◌-◌, ◌≤◌, List, [], ◌++◌, Bool, take, drop, length}
use Rattle.guild_model.specs.Record.{Record, closed}
use Rattle.logbook.specs.Pages.{Book}
use Rattle.edit_apply.specs.declared.Edit.{Edit}
use Rattle.guild_hub.specs.Logs.{Hub, Published, record_after}
use Rattle.guild_hub.specs.Marks.{has_store}
use Rattle.guild_hub.specs.declared.mark_step.MarkStep.{MarkStep}

-- a position in the log, the record there, and the entries seen from there on
pub record Segment : Type 0 where
  pub base : ℕ
  pub basis : Record
  pub entries : List Edit

abbrev pub segment : ℕ → Record → List Edit → Segment
segment base basis entries = record { base = base; basis = basis; entries = entries }

-- the position after the last entry seen
abbrev pub end_of : Segment → ℕ
end_of s = s.base + length s.entries

-- what a reader has seen that has not looked
abbrev pub unseen : Hub → Segment
unseen hub = segment 0 (closed hub.guild) []

abbrev pub with_more : Segment → List Edit → Segment
with_more s entries = segment s.base s.basis (s.entries ++ entries)

-- the segment is a part of the log, begun from the log's record at its position
pub record Fits (s : Segment) (log : Published) : Type 0 where
  pub within : end_of s ≤ length log.entries
  pub basis : s.basis ≡ record_after log s.base
  pub entries : s.entries ≡ take (length s.entries) (drop s.base log.entries)

-- the part of a log from a position to another, begun from the record there
abbrev pub part_of : Published → ℕ → ℕ → Segment
part_of log base cursor = segment base (record_after log base) (take (cursor - base) (drop base log.entries))

-- a reader's end of a mark: the name of the mark's history, and the steps on the mark up to the reader's last
-- load of it, or as it was told since
pub record Watching : Type 0 where
  pub mark : Book
  pub steps : List MarkStep

abbrev pub watching : Book → List MarkStep → Watching
watching mark steps = record { mark = mark; steps = steps }

-- a reader: its last segment, the log as it was at its last step or as it was told since, the log that each of
-- its steps on the hub found, the mark that its writer stores when it quits, and the steps on that mark up to
-- the reader's last load of it, or as it was told since
pub record Seeing : Type 0 where
  pub last : Segment
  pub log : Published
  pub enters : List Published
  pub mark : Book
  pub mark_steps : List MarkStep

abbrev pub seeing : Segment → Published → List Published → Watching → Seeing
seeing last log enters watch = record { last = last; log = log; enters = enters; mark = watch.mark; mark_steps = watch.steps }

-- whether the reader knows that the writer has quit
abbrev pub has_quit : Seeing → Bool
has_quit s = has_store s.mark_steps
