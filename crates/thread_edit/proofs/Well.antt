-- An edit of threads leaves a record well.
use Rattle.std.proofs.Common.{◌≡◌, true, false, None}
use Rattle.guild_model.specs.Record.{Record}
use Rattle.guild_model.specs.Ascending.{IsWell}
use Rattle.thread_edit.specs.declared.ThreadEdit.{ThreadEdit}
use Rattle.thread_edit.specs.declared.ThreadEdit.TheVariants.{ThreadCreate, ThreadRename, ThreadArchive, ThreadUnarchive, ThreadDelete, ThreadJoin, ThreadLeave}
use Rattle.thread_edit.specs.ThreadEdits.{thread_verdict, thread_applied}
use Rattle.thread_edit.proofs.Kept.{thread_came, renamed, archived, thread_gone, user_joined, user_left}
use Rattle.thread_edit.proofs.Ascends

pub well : (g : Record) (edit : ThreadEdit) → g.opened ≡ true → IsWell g → thread_verdict g edit ≡ None → IsWell (thread_applied g edit)
well g (ThreadCreate edit) o w e = record { ascending = Ascends.thread_came g w.ascending edit; consistent = thread_came g o w.consistent edit e }
well g (ThreadRename edit) o w e = record { ascending = Ascends.renamed g w.ascending edit; consistent = renamed g o w.consistent edit }
well g (ThreadArchive thread) o w e = record { ascending = Ascends.archived g w.ascending thread true; consistent = archived g o w.consistent thread true }
well g (ThreadUnarchive thread) o w e = record { ascending = Ascends.archived g w.ascending thread false; consistent = archived g o w.consistent thread false }
well g (ThreadDelete thread) o w e = record { ascending = Ascends.thread_gone g w.ascending thread; consistent = thread_gone g o w.consistent thread }
well g (ThreadJoin edit) o w e = record { ascending = Ascends.user_joined g w.ascending edit; consistent = user_joined g o w.consistent edit e }
well g (ThreadLeave edit) o w e = record { ascending = Ascends.user_left g w.ascending edit; consistent = user_left g o w.consistent edit }
