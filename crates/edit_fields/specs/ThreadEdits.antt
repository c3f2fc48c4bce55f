-- The fields of the edits of threads.
use Rattle.std.specs.Prelude.{ℕ, List, [], ◌∷◌, Result, Ok, codes}
use Rattle.serde_json.specs.Data.{Data, string}
use Rattle.json_view.specs.Fields.{and_then}
use Rattle.guild_model.specs.Numbers.{thread_kind_number}
use Rattle.thread_edit.specs.declared.ThreadEdit.{ThreadEdit}
use Rattle.thread_edit.specs.declared.ThreadEdit.TheVariants as edit
use Rattle.thread_edit.specs.declared.thread_create.ThreadCreate.{ThreadCreate}
use Rattle.thread_edit.specs.declared.thread_rename.ThreadRename.{ThreadRename}
use Rattle.thread_edit.specs.declared.thread_join.ThreadJoin.{ThreadJoin}
use Rattle.thread_edit.specs.declared.thread_leave.ThreadLeave.{ThreadLeave}
use Rattle.edit_fields.specs.declared.fault.LineFault.{LineFault}
use Rattle.edit_fields.specs.declared.names.ThreadEditName.{ThreadEditName}
use Rattle.edit_fields.specs.declared.names.ThreadEditName.TheVariants as named
use Rattle.edit_fields.specs.Fields.{text_at, id_at, moment_at, thread_kind_at}
use Rattle.edit_fields.specs.Members.{count, id_data}

-- ---- reading

abbrev pub thread_create_from : Data → Result ThreadCreate LineFault
thread_create_from d =
    and_then (id_at (codes "thread") d) (λ thread.
    and_then (id_at (codes "parent") d) (λ parent.
    and_then (thread_kind_at (codes "type") d) (λ kind.
    and_then (text_at (codes "name") d) (λ name.
    and_then (id_at (codes "owner") d) (λ owner.
    and_then (moment_at (codes "at") d) (λ at.
    Ok (record {
      thread = thread;
      parent = parent;
      kind = kind;
      name = name;
      owner = owner;
      at = at;
    })))))))

abbrev pub thread_rename_from : Data → Result ThreadRename LineFault
thread_rename_from d =
    and_then (id_at (codes "thread") d) (λ thread.
    and_then (text_at (codes "name") d) (λ name.
    Ok (record { thread = thread; name = name })))

abbrev pub thread_join_from : Data → Result ThreadJoin LineFault
thread_join_from d =
    and_then (id_at (codes "thread") d) (λ thread.
    and_then (id_at (codes "user") d) (λ user.
    and_then (moment_at (codes "at") d) (λ at.
    Ok (record { thread = thread; user = user; at = at }))))

abbrev pub thread_leave_from : Data → Result ThreadLeave LineFault
thread_leave_from d =
    and_then (id_at (codes "thread") d) (λ thread.
    and_then (id_at (codes "user") d) (λ user.
    Ok (record { thread = thread; user = user })))

abbrev pub thread_edit_from : ThreadEditName → Data → Result ThreadEdit LineFault
thread_edit_from named.ThreadCreate d =
    and_then (thread_create_from d) (λ e. Ok (edit.ThreadCreate e))
thread_edit_from named.ThreadRename d =
    and_then (thread_rename_from d) (λ e. Ok (edit.ThreadRename e))
thread_edit_from named.ThreadArchive d =
    and_then (id_at (codes "thread") d) (λ thread. Ok (edit.ThreadArchive thread))
thread_edit_from named.ThreadUnarchive d =
    and_then (id_at (codes "thread") d) (λ thread. Ok (edit.ThreadUnarchive thread))
thread_edit_from named.ThreadDelete d =
    and_then (id_at (codes "thread") d) (λ thread. Ok (edit.ThreadDelete thread))
thread_edit_from named.ThreadJoin d = and_then (thread_join_from d) (λ e. Ok (edit.ThreadJoin e))
thread_edit_from named.ThreadLeave d = and_then (thread_leave_from d) (λ e. Ok (edit.ThreadLeave e))

-- ---- writing

abbrev pub thread_edit_name : ThreadEdit → ThreadEditName
thread_edit_name (edit.ThreadCreate e) = named.ThreadCreate
thread_edit_name (edit.ThreadRename e) = named.ThreadRename
thread_edit_name (edit.ThreadArchive thread) = named.ThreadArchive
thread_edit_name (edit.ThreadUnarchive thread) = named.ThreadUnarchive
thread_edit_name (edit.ThreadDelete thread) = named.ThreadDelete
thread_edit_name (edit.ThreadJoin e) = named.ThreadJoin
thread_edit_name (edit.ThreadLeave e) = named.ThreadLeave

abbrev pub thread_create_fields : ThreadCreate → List (List ℕ × Data)
thread_create_fields e =
    (codes "thread", id_data e.thread) ∷ (codes "parent", id_data e.parent)
    ∷ (codes "type", count (thread_kind_number e.kind)) ∷ (codes "name", string e.name)
    ∷ (codes "owner", id_data e.owner) ∷ (codes "at", count e.at) ∷ []

abbrev pub thread_rename_fields : ThreadRename → List (List ℕ × Data)
thread_rename_fields e = (codes "thread", id_data e.thread) ∷ (codes "name", string e.name) ∷ []

abbrev pub thread_join_fields : ThreadJoin → List (List ℕ × Data)
thread_join_fields e =
    (codes "thread", id_data e.thread) ∷ (codes "user", id_data e.user) ∷ (codes "at", count e.at) ∷ []

abbrev pub thread_leave_fields : ThreadLeave → List (List ℕ × Data)
thread_leave_fields e = (codes "thread", id_data e.thread) ∷ (codes "user", id_data e.user) ∷ []

abbrev pub thread_edit_fields : ThreadEdit → List (List ℕ × Data)
thread_edit_fields (edit.ThreadCreate e) = thread_create_fields e
thread_edit_fields (edit.ThreadRename e) = thread_rename_fields e
thread_edit_fields (edit.ThreadArchive thread) = (codes "thread", id_data thread) ∷ []
thread_edit_fields (edit.ThreadUnarchive thread) = (codes "thread", id_data thread) ∷ []
thread_edit_fields (edit.ThreadDelete thread) = (codes "thread", id_data thread) ∷ []
thread_edit_fields (edit.ThreadJoin e) = thread_join_fields e
thread_edit_fields (edit.ThreadLeave e) = thread_leave_fields e
