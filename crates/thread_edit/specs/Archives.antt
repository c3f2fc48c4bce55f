-- Threads that are archived and become active again (Threads, Active & Archived Threads).
use Rattle.std.specs.Prelude.{ℕ, [], ◌∷◌, Bool, true, false, not, Option}
use Rattle.guild_model.specs.declared.thread.Thread.{Thread}
use Rattle.guild_model.specs.declared.verdict.Verdict.{Verdict}
use Rattle.guild_model.specs.declared.verdict.Verdict.TheVariants.{NotArchived}
use Rattle.guild_model.specs.Record.{Record}
use Rattle.guild_model.specs.Tests.{refused_if, first_of}
use Rattle.thread_edit.specs.Threads.{is_archived, unknown_thread, not_active, too_many_active, thread_changed}

abbrev pub with_archived : Bool → Thread → Thread
with_archived archived t = record t { archived = archived }

-- thread_archive
abbrev pub thread_archive_verdict : Record → ℕ → Option Verdict
thread_archive_verdict g thread = first_of (unknown_thread g thread ∷ not_active g thread ∷ [])

abbrev pub thread_archived : Record → ℕ → Record
thread_archived g thread = thread_changed g thread (with_archived true)

-- thread_unarchive: an active thread more has room
abbrev pub not_archived : Record → ℕ → Option Verdict
not_archived g thread = refused_if (not (is_archived g thread)) NotArchived

abbrev pub thread_unarchive_verdict : Record → ℕ → Option Verdict
thread_unarchive_verdict g thread = first_of (unknown_thread g thread ∷ not_archived g thread ∷ too_many_active g ∷ [])

abbrev pub thread_unarchived : Record → ℕ → Record
thread_unarchived g thread = thread_changed g thread (with_archived false)
