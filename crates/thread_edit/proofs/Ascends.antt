-- The lists of a record still ascend after each edit of threads.
use Rattle.std.proofs.Common.{◌≡◌, ℕ, Bool, not, List, refl}
use Rattle.std.specs.Prelude.{◌==◌, All}
use Rattle.std.proofs.lemmas.List.Elements.{All-filter}
use Rattle.collections.specs.ById.{IsById, put_id, changed_id, without_id}
use Rattle.collections.proofs.Ids.{IsById-put, IsById-changed}
use Rattle.collections.proofs.Finds.{IsById-without}
use Rattle.collections.proofs.Has.{All-put, All-changed}
use Rattle.guild_model.specs.declared.thread.Thread.{Thread}
use Rattle.guild_model.specs.declared.message.MessageHead.{MessageHead}
use Rattle.guild_model.specs.Record.{Record, thread_id, thread_member_id}
use Rattle.guild_model.specs.Heads.{AreRecent}
use Rattle.guild_model.specs.Ascending.{IsAscending, HasInOrder}
use Rattle.guild_model.proofs.Recent.{recent_left}
use Rattle.thread_edit.specs.declared.thread_create.ThreadCreate.{ThreadCreate}
use Rattle.thread_edit.specs.declared.thread_join.ThreadJoin.{ThreadJoin}
use Rattle.thread_edit.specs.declared.thread_leave.ThreadLeave.{ThreadLeave}
use Rattle.thread_edit.specs.declared.thread_rename.ThreadRename.{ThreadRename}
use Rattle.thread_edit.specs.Threads.{new_thread_member, new_thread, thread_created, thread_changed, thread_renamed, with_thread_name, stands_elsewhere, thread_deleted}
use Rattle.thread_edit.specs.Archives.{with_archived}
use Rattle.thread_edit.specs.ThreadMembers.{with_joined, thread_joined, with_left, thread_left}

module _ (g : Record) (a : IsAscending g) where
  threads_changed : (ts : List Thread) (ms : List MessageHead) → IsById thread_id ts → All HasInOrder ts → AreRecent ms → IsAscending (record g { threads = ts; messages = ms })
  threads_changed ts ms threads joined messages = record {
    roles = a.roles;
    members = a.members;
    channels = a.channels;
    threads = threads;
    voices = a.voices;
    presences = a.presences;
    held = a.held;
    overwrites = a.overwrites;
    joined = joined;
    messages = messages;
  }

  pub thread_came : (edit : ThreadCreate) → IsAscending (thread_created g edit)
  thread_came edit =
      let n : Thread = new_thread edit in
      threads_changed (put_id thread_id n g.threads) g.messages (IsById-put thread_id n g.threads a.threads) (All-put thread_id HasInOrder n g.threads (tt, tt) a.joined) a.messages

  changed : (at : ℕ) (f : Thread → Thread) → ((t : Thread) → thread_id (f t) ≡ thread_id t) → ((t : Thread) → HasInOrder t → HasInOrder (f t)) → IsAscending (thread_changed g at f)
  changed at f same keeps =
      threads_changed (changed_id thread_id at f g.threads) g.messages (IsById-changed thread_id at f g.threads same a.threads) (All-changed thread_id HasInOrder at f g.threads keeps a.joined) a.messages

  pub renamed : (edit : ThreadRename) → IsAscending (thread_renamed g edit)
  renamed edit = changed edit.thread (with_thread_name edit.name) (λ t. refl) (λ t o. o)

  pub archived : (thread : ℕ) (is : Bool) → IsAscending (thread_changed g thread (with_archived is))
  archived thread is = changed thread (with_archived is) (λ t. refl) (λ t o. o)

  pub user_joined : (edit : ThreadJoin) → IsAscending (thread_joined g edit)
  user_joined edit =
      changed edit.thread (with_joined edit.user edit.at) (λ t. refl) (λ t o. IsById-put thread_member_id (new_thread_member edit.user edit.at) t.members o)

  pub user_left : (edit : ThreadLeave) → IsAscending (thread_left g edit)
  user_left edit = changed edit.thread (with_left edit.user) (λ t. refl) (λ t o. IsById-without thread_member_id edit.user t.members o)

  pub thread_gone : (thread : ℕ) → IsAscending (thread_deleted g thread)
  thread_gone thread =
      let others : Thread → Bool = λ t. not (thread_id t == thread) in
      threads_changed (without_id thread_id thread g.threads) _ (IsById-without thread_id thread g.threads a.threads) (All-filter others HasInOrder g.threads a.joined)
      (recent_left (stands_elsewhere thread) g.messages a.messages)
