-- The dispatches by what was noted before an edit are those by the record before it.
use Rattle.std.proofs.Common.{◌≡◌, ℕ, Option, Some, None, refl}
use Rattle.guild_model.specs.declared.member.Member.{Member}
use Rattle.guild_model.specs.declared.thread.Thread.{Thread}
use Rattle.guild_model.specs.Record.{Record}
use Rattle.dispatch_types.specs.declared.viewer.Viewer.{Viewer}
use Rattle.thread_edit.specs.declared.ThreadEdit.TheVariants as edit
use Rattle.thread_edit.specs.declared.thread_join.ThreadJoin.{ThreadJoin}
use Rattle.thread_edit.specs.declared.thread_leave.ThreadLeave.{ThreadLeave}
use Rattle.event_views.specs.Threads.{seen_thread}
use Rattle.thread_events.specs.Ends.{note_of}
use Rattle.thread_events.specs.Dispatches.{deleted, joined, left}
use Rattle.thread_events.specs.ByNote.{deleted_by_note, joined_by_note, left_by_note}
use Rattle.thread_events.specs.Law.{ThreadNoteIsEnough}

-- by the thread as it was seen, or not
module _ (after : Record) (v : Viewer) (me : Member) where
  deleted-noted : (thread : ℕ) (was : Option Thread) → deleted_by_note (note_of was) after.id v thread ≡ deleted was after.id v thread
  deleted-noted thread None = refl
  deleted-noted thread (Some t) = refl

  joined-noted : (e : ThreadJoin) (was : Option Thread) → joined_by_note (note_of was) after v me e ≡ joined was after v me e
  joined-noted e None = refl
  joined-noted e (Some t) = refl

  left-noted : (e : ThreadLeave) (was : Option Thread) → left_by_note (note_of was) after v e ≡ left was after v e
  left-noted e None = refl
  left-noted e (Some t) = refl

pub thread_note_is_enough : ThreadNoteIsEnough
thread_note_is_enough before after (edit.ThreadCreate e) v me me' = refl
thread_note_is_enough before after (edit.ThreadRename e) v me me' = refl
thread_note_is_enough before after (edit.ThreadArchive thread) v me me' = refl
thread_note_is_enough before after (edit.ThreadUnarchive thread) v me me' = refl
thread_note_is_enough before after (edit.ThreadDelete thread) v me me' = deleted-noted after v me' thread (seen_thread before me thread)
thread_note_is_enough before after (edit.ThreadJoin e) v me me' = joined-noted after v me' e (seen_thread before me e.thread)
thread_note_is_enough before after (edit.ThreadLeave e) v me me' = left-noted after v me' e (seen_thread before me e.thread)
