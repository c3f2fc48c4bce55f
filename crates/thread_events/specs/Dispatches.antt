-- What the edits of threads owe to a viewer that is served before and after them (Gateway Events, Thread
-- Create to Thread Members Update). A viewer is told of the threads that its member sees.
use Rattle.std.specs.Prelude.{ℕ, ◌++◌, List, [], true, false, Option, Some, None}
use Rattle.collections.specs.ById.{find_id}
use Rattle.guild_model.specs.declared.member.Member.{Member}
use Rattle.guild_model.specs.declared.thread.Thread.{Thread}
use Rattle.guild_model.specs.declared.thread.ThreadKind.{ThreadKind}
use Rattle.guild_model.specs.Record.{Record, thread_id}
use Rattle.dispatch_types.specs.declared.viewer.Viewer.{Viewer}
use Rattle.dispatch_types.specs.declared.dispatch.Dispatch.{Dispatch}
use Rattle.dispatch_types.specs.declared.dispatch.Dispatch.TheVariants as dispatch
use Rattle.thread_edit.specs.declared.ThreadEdit.{ThreadEdit}
use Rattle.thread_edit.specs.declared.ThreadEdit.TheVariants as edit
use Rattle.thread_edit.specs.declared.thread_join.ThreadJoin.{ThreadJoin}
use Rattle.thread_edit.specs.declared.thread_leave.ThreadLeave.{ThreadLeave}
use Rattle.event_views.specs.Asked.{asked}
use Rattle.event_views.specs.Threads.{seen_thread, thread_creates, thread_updates, thread_joins, thread_leaves}

-- active again: the thread as it is now, and then the viewer's own membership, where it is in the thread
abbrev pub unarchived : Record → Viewer → Member → ℕ → List Dispatch
unarchived after v me thread = thread_updates after.id v (seen_thread after me thread) ++ thread_joins after.id v v.user (seen_thread after me thread)

abbrev pub thread_deletes : ℕ → Viewer → ℕ → ℕ → ThreadKind → List Dispatch
thread_deletes guild v thread parent kind =
    asked v false (dispatch.ThreadDelete (record { guild = guild; id = thread; parent = parent; kind = kind }))

-- of a thread that the viewer saw
abbrev pub deleted : Option Thread → ℕ → Viewer → ℕ → List Dispatch
deleted None guild v thread = []
deleted (Some was) guild v thread = thread_deletes guild v thread was.parent was.kind

-- a user that joins: of a thread that the viewer did not see before, it is told the thread, if it sees it now
abbrev pub joined : Option Thread → Record → Viewer → Member → ThreadJoin → List Dispatch
joined None after v me edit = thread_creates after.id v false (seen_thread after me edit.thread)
joined (Some was) after v me edit = thread_joins after.id v edit.user (find_id thread_id edit.thread after.threads)

abbrev pub left : Option Thread → Record → Viewer → ThreadLeave → List Dispatch
left None after v edit = []
left (Some was) after v edit = thread_leaves after.id v edit.user (find_id thread_id edit.thread after.threads)

-- the dispatches of an edit in order, by the record before it and the record after, with the viewer's own
-- member in each
module _ (before : Record) (me : Member) (after : Record) (me' : Member) (v : Viewer) where
  abbrev pub thread_dispatches : ThreadEdit → List Dispatch
  thread_dispatches (edit.ThreadCreate e) = thread_creates after.id v true (seen_thread after me' e.thread)
  thread_dispatches (edit.ThreadRename e) = thread_updates after.id v (seen_thread after me' e.thread)
  thread_dispatches (edit.ThreadArchive thread) = thread_updates after.id v (seen_thread after me' thread)
  thread_dispatches (edit.ThreadUnarchive thread) = unarchived after v me' thread
  thread_dispatches (edit.ThreadDelete thread) = deleted (seen_thread before me thread) after.id v thread
  thread_dispatches (edit.ThreadJoin e) = joined (seen_thread before me e.thread) after v me' e
  thread_dispatches (edit.ThreadLeave e) = left (seen_thread before me e.thread) after v e
