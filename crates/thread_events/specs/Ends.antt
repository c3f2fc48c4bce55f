-- What has to be known of the record before an edit of a thread.
use Rattle.std.specs.Prelude.{Option, Some, None}
use Rattle.guild_model.specs.declared.member.Member.{Member}
use Rattle.guild_model.specs.declared.thread.Thread.{Thread}
use Rattle.guild_model.specs.Record.{Record}
use Rattle.thread_edit.specs.declared.ThreadEdit.{ThreadEdit}
use Rattle.thread_edit.specs.declared.ThreadEdit.TheVariants.{ThreadDelete, ThreadJoin, ThreadLeave}
use Rattle.event_views.specs.Threads.{seen_thread}
use Rattle.thread_events.specs.declared.sight.ThreadNote.{ThreadNote}
use Rattle.thread_events.specs.declared.sight.ThreadNote.TheVariants.{Nothing, Unseen, Seen}

abbrev pub note_of : Option Thread → ThreadNote
note_of None = Unseen
note_of (Some t) = Seen t.parent t.kind

-- whether the viewer's member saw the thread, for the edits whose dispatches depend on it
abbrev pub thread_note : Record → Member → ThreadEdit → ThreadNote
thread_note s me (ThreadDelete thread) = note_of (seen_thread s me thread)
thread_note s me (ThreadJoin edit) = note_of (seen_thread s me edit.thread)
thread_note s me (ThreadLeave edit) = note_of (seen_thread s me edit.thread)
thread_note s me _ = Nothing
