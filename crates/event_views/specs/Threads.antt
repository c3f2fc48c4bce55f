-- What is told of one thread (Gateway Events, Thread Create to Thread Members Update).
use Rattle.std.specs.Prelude.{ℕ, ◌==◌, min, length, List, [], ◌∷◌, map, filter, flat_map, Bool, false, Option, Some, None}
use Rattle.collections.specs.ById.{find_id, keep_if}
use Rattle.guild_model.specs.declared.member.Member.{Member}
use Rattle.guild_model.specs.declared.thread.Thread.{Thread}
use Rattle.guild_model.specs.declared.thread.ThreadMember.{ThreadMember}
use Rattle.guild_model.specs.Record.{Record, thread_id, thread_member_id}
use Rattle.guild_model.specs.Sight.{is_in, member_sees}
use Rattle.dispatch_types.specs.declared.viewer.Viewer.{Viewer}
use Rattle.dispatch_types.specs.declared.threads.ThreadMemberObject.{ThreadMemberObject}
use Rattle.dispatch_types.specs.declared.threads.ThreadMembersUpdate.{ThreadMembersUpdate as MembersUpdate}
use Rattle.dispatch_types.specs.declared.dispatch.Dispatch.{Dispatch}
use Rattle.dispatch_types.specs.declared.dispatch.Dispatch.TheVariants.{ThreadCreate, ThreadUpdate, ThreadMembersUpdate}
use Rattle.dispatch_types.specs.Objects.{thread_object, thread_member_object}
use Rattle.dispatch_types.specs.Projection.{seen_threads}
use Rattle.thread_sync.specs.Sync.{own_membership}
use Rattle.event_views.specs.Asked.{asked}

-- how many users are in a thread, cut at 50
abbrev pub thread_count : Thread → ℕ
thread_count t = min 50 (length t.members)

-- a user's membership, where the user is in the thread
abbrev pub membership : ℕ → Thread → Option ThreadMember
membership user t = find_id thread_member_id user t.members

-- the thread of an id, archived or not, where the member sees it
abbrev pub seen_thread : Record → Member → ℕ → Option Thread
seen_thread s me thread = keep_if (member_sees s me) (find_id thread_id thread s.threads)

-- the active threads that a user is in and that the member sees, by their ids
abbrev pub threads_left : Record → Member → ℕ → List ℕ
threads_left s me user = map thread_id (filter (is_in user) (seen_threads s me))

-- how the users in a thread have changed, with how many are in it now
abbrev pub members_update : ℕ → Thread → List ThreadMemberObject → List ℕ → MembersUpdate
members_update guild t added removed = record { guild = guild; id = t.id; count = thread_count t; added = added; removed = removed }

-- the guild's id, and who is told
module _ (guild : ℕ) (v : Viewer) where
  -- a thread that comes into sight, with the viewer's own membership
  abbrev pub thread_creates : Bool → Option Thread → List Dispatch
  thread_creates newly None = []
  thread_creates newly (Some t) = asked v false (ThreadCreate (record { thread = thread_object guild t; newly_created = newly; member = own_membership v.user t }))

  abbrev pub thread_updates : Option Thread → List Dispatch
  thread_updates None = []
  thread_updates (Some t) = asked v false (ThreadUpdate (thread_object guild t))

  -- a user that is in a thread now, which is the viewer's own bot or another
  abbrev pub member_comes : Thread → Option ThreadMember → List Dispatch
  member_comes t None = []
  member_comes t (Some m) = asked v (m.user == v.user) (ThreadMembersUpdate (members_update guild t (thread_member_object t.id m ∷ []) []))

  abbrev pub thread_joins : ℕ → Option Thread → List Dispatch
  thread_joins user None = []
  thread_joins user (Some t) = member_comes t (membership user t)

  -- a user that is in a thread no longer
  abbrev pub thread_leaves : ℕ → Option Thread → List Dispatch
  thread_leaves user None = []
  thread_leaves user (Some t) = asked v (user == v.user) (ThreadMembersUpdate (members_update guild t [] (user ∷ [])))

  -- a user that leaves all threads: these, as they are after it
  abbrev pub user_leaves : ℕ → List Thread → List ℕ → List Dispatch
  user_leaves user after ids = flat_map (λ id. thread_leaves user (find_id thread_id id after)) ids
