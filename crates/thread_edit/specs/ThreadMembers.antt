-- Users that join and leave threads (Channels Resource, Add and Remove Thread Member).
use Rattle.std.specs.Prelude.{ℕ, List, [], ◌∷◌, Bool, false, not, Option}
use Rattle.std.specs.Option.{option_map_or}
use Rattle.collections.specs.ById.{find_id, put_id, without_id}
use Rattle.guild_model.specs.declared.thread.Thread.{Thread}
use Rattle.guild_model.specs.declared.thread.ThreadMember.{ThreadMember}
use Rattle.guild_model.specs.declared.verdict.Verdict.{Verdict}
use Rattle.guild_model.specs.declared.verdict.Verdict.TheVariants.{InThread, NotInThread}
use Rattle.guild_model.specs.Record.{Record, thread_id, thread_member_id}
use Rattle.guild_model.specs.Sight.{is_in}
use Rattle.guild_model.specs.Tests.{refused_if, first_of, unknown_member}
use Rattle.thread_edit.specs.declared.thread_join.ThreadJoin.{ThreadJoin}
use Rattle.thread_edit.specs.declared.thread_leave.ThreadLeave.{ThreadLeave}
use Rattle.thread_edit.specs.Threads.{unknown_thread, not_active, new_thread_member, thread_changed}

-- whether the thread exists and the user is in it
abbrev pub is_in_thread : Record → ℕ → ℕ → Bool
is_in_thread g thread user = option_map_or (is_in user) (find_id thread_id thread g.threads) false

-- thread_join
abbrev pub thread_join_verdict : Record → ThreadJoin → Option Verdict
thread_join_verdict g edit = first_of (
    unknown_thread g edit.thread
    ∷ unknown_member g edit.user
    ∷ not_active g edit.thread
    ∷ refused_if (is_in_thread g edit.thread edit.user) InThread
    ∷ [])

abbrev pub with_joined : ℕ → ℕ → Thread → Thread
with_joined user at t = record t { members = put_id thread_member_id (new_thread_member user at) t.members }

abbrev pub thread_joined : Record → ThreadJoin → Record
thread_joined g edit = thread_changed g edit.thread (with_joined edit.user edit.at)

-- thread_leave
abbrev pub thread_leave_verdict : Record → ThreadLeave → Option Verdict
thread_leave_verdict g edit = first_of (
    unknown_thread g edit.thread
    ∷ not_active g edit.thread
    ∷ refused_if (not (is_in_thread g edit.thread edit.user)) NotInThread
    ∷ [])

abbrev pub with_left : ℕ → Thread → Thread
with_left user t = record t { members = without_id thread_member_id user t.members }

abbrev pub thread_left : Record → ThreadLeave → Record
thread_left g edit = thread_changed g edit.thread (with_left edit.user)

-- the members of a thread and one more, and a thread that has these members
abbrev pub members_with : Record → ℕ → ThreadMember → List ThreadMember
members_with g thread m =
    option_map_or (λ (t : Thread). put_id thread_member_id m t.members) (find_id thread_id thread g.threads) (m ∷ [])

abbrev pub with_members : List ThreadMember → Thread → Thread
with_members ms t = record t { members = ms }
