-- The edits of threads: what is refused, and what becomes of the record.
use Rattle.std.specs.Prelude.{Option}
use Rattle.guild_model.specs.declared.verdict.Verdict.{Verdict}
use Rattle.guild_model.specs.Record.{Record}
use Rattle.thread_edit.specs.declared.ThreadEdit.{ThreadEdit}
use Rattle.thread_edit.specs.declared.ThreadEdit.TheVariants.{ThreadCreate, ThreadRename, ThreadArchive, ThreadUnarchive, ThreadDelete, ThreadJoin, ThreadLeave}
use Rattle.thread_edit.specs.Threads.{thread_create_verdict, thread_created, thread_rename_verdict, thread_renamed, thread_delete_verdict, thread_deleted}
use Rattle.thread_edit.specs.Archives.{thread_archive_verdict, thread_archived, thread_unarchive_verdict, thread_unarchived}
use Rattle.thread_edit.specs.ThreadMembers.{thread_join_verdict, thread_joined, thread_leave_verdict, thread_left}

-- why an edit of an open guild is refused, if it is
abbrev pub thread_verdict : Record → ThreadEdit → Option Verdict
thread_verdict g (ThreadCreate edit) = thread_create_verdict g edit
thread_verdict g (ThreadRename edit) = thread_rename_verdict g edit
thread_verdict g (ThreadArchive thread) = thread_archive_verdict g thread
thread_verdict g (ThreadUnarchive thread) = thread_unarchive_verdict g thread
thread_verdict g (ThreadDelete thread) = thread_delete_verdict g thread
thread_verdict g (ThreadJoin edit) = thread_join_verdict g edit
thread_verdict g (ThreadLeave edit) = thread_leave_verdict g edit

-- the record after an edit that is not refused
abbrev pub thread_applied : Record → ThreadEdit → Record
thread_applied g (ThreadCreate edit) = thread_created g edit
thread_applied g (ThreadRename edit) = thread_renamed g edit
thread_applied g (ThreadArchive thread) = thread_archived g thread
thread_applied g (ThreadUnarchive thread) = thread_unarchived g thread
thread_applied g (ThreadDelete thread) = thread_deleted g thread
thread_applied g (ThreadJoin edit) = thread_joined g edit
thread_applied g (ThreadLeave edit) = thread_left g edit
