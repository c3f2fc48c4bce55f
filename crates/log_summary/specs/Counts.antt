-- The numbers of a log that the summary tells.
use Rattle.std.specs.Prelude.{ℕ, length}
use Rattle.std.specs.List.{count_by}
use Rattle.guild_model.specs.declared.thread.Thread.{Thread}
use Rattle.guild_model.specs.Record.{Record}
use Rattle.guild_hub.specs.Logs.{Published, whole_record, accepted}
use Rattle.thread_edit.specs.Threads.{active_threads}
use Rattle.log_summary.specs.declared.counts.Counts.{Counts}

abbrev pub archived_threads : Record → ℕ
archived_threads g = count_by (λ (t : Thread). t.archived) g.threads

-- the entries, those that were accepted, and what the record after all of them has
abbrev pub counts_of : Published → Counts
counts_of log = record {
  entries = length log.entries;
  accepted = accepted log;
  members = length (whole_record log).members;
  roles = length (whole_record log).roles;
  channels = length (whole_record log).channels;
  active = active_threads (whole_record log);
  archived = archived_threads (whole_record log);
}
