-- internal: the same dispatches by what was noted before an edit; that they are those of `Dispatches` is proved.
use Rattle.std.specs.Prelude.{ℕ, List, [], true, false}
use Rattle.collections.specs.ById.{find_id}
use Rattle.guild_model.specs.declared.member.Member.{Member}
use Rattle.guild_model.specs.Record.{Record, thread_id}
use Rattle.dispatch_types.specs.declared.viewer.Viewer.{Viewer}
use Rattle.dispatch_types.specs.declared.dispatch.Dispatch.{Dispatch}
use Rattle.thread_edit.specs.declared.ThreadEdit.{ThreadEdit}
use Rattle.thread_edit.specs.declared.ThreadEdit.TheVariants as edit
use Rattle.thread_edit.specs.declared.thread_join.ThreadJoin.{ThreadJoin}
use Rattle.thread_edit.specs.declared.thread_leave.ThreadLeave.{ThreadLeave}
use Rattle.event_views.specs.Threads.{seen_thread, thread_creates, thread_updates, thread_joins, thread_leaves}
use Rattle.thread_events.specs.declared.sight.ThreadNote.{ThreadNote}
use Rattle.thread_events.specs.declared.sight.ThreadNote.TheVariants.{Seen}
use Rattle.thread_events.specs.Dispatches.{unarchived, thread_deletes}

abbrev pub deleted_by_note : ThreadNote → ℕ → Viewer → ℕ → List Dispatch
deleted_by_note (Seen parent kind) guild v thread = thread_deletes guild v thread parent kind
deleted_by_note _ guild v thread = []

abbrev pub joined_by_note : ThreadNote → Record → Viewer → Member → ThreadJoin → List Dispatch
joined_by_note (Seen parent kind) after v me edit =
    thread_joins after.id v edit.user (find_id thread_id edit.thread after.threads)
joined_by_note _ after v me edit = thread_creates after.id v false (seen_thread after me edit.thread)

abbrev pub left_by_note : ThreadNote → Record → Viewer → ThreadLeave → List Dispatch
left_by_note (Seen parent kind) after v edit =
    thread_leaves after.id v edit.user (find_id thread_id edit.thread after.threads)
left_by_note _ after v edit = []

-- by the record after the edit and the viewer's own member there
abbrev pub thread_by_note : ThreadNote → Record → Viewer → Member → ThreadEdit → List Dispatch
thread_by_note n after v me (edit.ThreadCreate e) = thread_creates after.id v true (seen_thread after me e.thread)
thread_by_note n after v me (edit.ThreadRename e) = thread_updates after.id v (seen_thread after me e.thread)
thread_by_note n after v me (edit.ThreadArchive thread) = thread_updates after.id v (seen_thread after me thread)
thread_by_note n after v me (edit.ThreadUnarchive thread) = unarchived after v me thread
thread_by_note n after v me (edit.ThreadDelete thread) = deleted_by_note n after.id v thread
thread_by_note n after v me (edit.ThreadJoin e) = joined_by_note n after v me e
thread_by_note n after v me (edit.ThreadLeave e) = left_by_note n after v e
