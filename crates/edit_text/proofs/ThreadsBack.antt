-- The line of an edit of threads reads back, nests little and has no float.
use Rattle.std.proofs.Common.{ℕ, refl, arith}
use Rattle.serde_json.proofs.OnLiterals.{serde_json_on_literals}
use Rattle.snowflake_id.proofs.Texts.{id_of_decimal}
use Rattle.guild_model.proofs.Numbers.{thread_kind_back}
use Rattle.edit_apply.specs.declared.Edit.TheVariants as edit
use Rattle.thread_edit.specs.declared.ThreadEdit.{ThreadEdit}
use Rattle.thread_edit.specs.declared.ThreadEdit.TheVariants.{ThreadCreate, ThreadRename, ThreadArchive, ThreadUnarchive, ThreadDelete, ThreadJoin, ThreadLeave}
use Rattle.edit_fields.specs.Fits.{IdFits, ThreadEditFits}
use Rattle.edit_text.proofs.ReadsBack.{Back, PlainEdit, moment_below}

pub thread_back : (guild : ℕ) (e : ThreadEdit) → IdFits guild → ThreadEditFits e → Back guild (edit.Thread e)
unfolding serde_json_on_literals
thread_back guild (ThreadCreate e) h k = (
  refl,
  rw (id_of_decimal guild h) refl,
  refl,
  rw (
    id_of_decimal e.thread k.0,
    id_of_decimal e.parent k.1,
    thread_kind_back e.kind,
    id_of_decimal e.owner k.2,
    moment_below e.at k.3,
  ) refl,
)
thread_back guild (ThreadRename e) h k = (refl, rw (id_of_decimal guild h) refl, refl, rw (id_of_decimal e.thread k) refl)
thread_back guild (ThreadArchive thread) h k = (refl, rw (id_of_decimal guild h) refl, refl, rw (id_of_decimal thread k) refl)
thread_back guild (ThreadUnarchive thread) h k = (refl, rw (id_of_decimal guild h) refl, refl, rw (id_of_decimal thread k) refl)
thread_back guild (ThreadDelete thread) h k = (refl, rw (id_of_decimal guild h) refl, refl, rw (id_of_decimal thread k) refl)
thread_back guild (ThreadJoin e) h k =
    (refl, rw (id_of_decimal guild h) refl, refl, rw (id_of_decimal e.thread k.0, id_of_decimal e.user k.1, moment_below e.at k.2) refl)
thread_back guild (ThreadLeave e) h k =
    (refl, rw (id_of_decimal guild h) refl, refl, rw (id_of_decimal e.thread k.0, id_of_decimal e.user k.1) refl)

pub thread_plain : (guild : ℕ) (e : ThreadEdit) → PlainEdit guild (edit.Thread e)
unfolding serde_json_on_literals
thread_plain guild (ThreadCreate e) = (omega arith, refl)
thread_plain guild (ThreadRename e) = (omega arith, refl)
thread_plain guild (ThreadArchive thread) = (omega arith, refl)
thread_plain guild (ThreadUnarchive thread) = (omega arith, refl)
thread_plain guild (ThreadDelete thread) = (omega arith, refl)
thread_plain guild (ThreadJoin e) = (omega arith, refl)
thread_plain guild (ThreadLeave e) = (omega arith, refl)
