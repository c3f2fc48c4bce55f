-- THREAD_LIST_SYNC after a change of permissions (Gateway Events, Thread List Sync; Threads, Syncing
-- for Channel Gain). When it is sent and what it lists is this server's choice, the private threads
-- that MANAGE_THREADS uncovers included.
use Rattle.std.specs.Prelude.{ℕ, List, [], ◌∷◌, map, filter, Bool, not, ◌&&◌, ◌||◌, ◌==◌, Option, Some, None, option_map}
use Rattle.std.specs.List.{list_any, filter_map}
use Rattle.collections.specs.ById.{find_id}
use Rattle.guild_model.specs.declared.member.Member.{Member}
use Rattle.guild_model.specs.declared.channel.Channel.{Channel}
use Rattle.guild_model.specs.declared.thread.Thread.{Thread}
use Rattle.guild_model.specs.Record.{Record, member_id, channel_id, thread_member_id}
use Rattle.guild_model.specs.Consistent.{has_threads}
use Rattle.guild_model.specs.Sight.{is_private}
use Rattle.dispatch_types.specs.declared.threads.ThreadMemberObject.{ThreadMemberObject}
use Rattle.dispatch_types.specs.declared.threads.ThreadListSync.{ThreadListSync as ListSync}
use Rattle.dispatch_types.specs.declared.dispatch.Dispatch.{Dispatch}
use Rattle.dispatch_types.specs.declared.dispatch.Dispatch.TheVariants.{ThreadListSync}
use Rattle.dispatch_types.specs.Objects.{thread_object, thread_member_object}
use Rattle.thread_sync.specs.Seen.{is_among}
use Rattle.thread_sync.specs.Shown.{Shown, shown_to}

-- a private thread that was not shown before
abbrev pub is_new : Shown → Thread → Bool
is_new before t = is_private t.kind && not (before.thread t)

-- such a thread is shown now in a channel
abbrev pub uncovers : Shown → Shown → List Thread → ℕ → Bool
uncovers before now threads channel =
    list_any (λ (t : Thread). t.parent == channel && (now.thread t && is_new before t)) threads

-- a parent is gained if it is shown now, and either was not shown before or a thread in it is uncovered
abbrev pub is_gained : Shown → Shown → (ℕ → Bool) → Channel → Bool
is_gained before now uncovered c =
    has_threads c.kind && (now.channel c.id && (not (before.channel c.id) || uncovered c.id))

abbrev pub gained_parents : Shown → Shown → Record → List ℕ
gained_parents before now s =
    map channel_id (filter (is_gained before now (uncovers before now s.threads)) s.channels)

-- the active threads in some parents that are shown
abbrev pub threads_in : Shown → List ℕ → List Thread → List Thread
threads_in now parents threads = filter (λ (t : Thread). is_among parents t.parent && now.thread t) threads

-- a user's membership in a thread, if the user is in it
abbrev pub own_membership : ℕ → Thread → Option ThreadMemberObject
own_membership user t = option_map (thread_member_object t.id) (find_id thread_member_id user t.members)

-- the sync of some parents to a user, with these threads
abbrev pub listed_sync : ℕ → ℕ → List ℕ → List Thread → ListSync
listed_sync guild user parents ts = record {
  guild = guild;
  channels = parents;
  threads = map (thread_object guild) ts;
  members = filter_map (own_membership user) ts;
}

abbrev pub listing : ℕ → ℕ → List ℕ → List Thread → Dispatch
listing guild user parents ts = ThreadListSync (listed_sync guild user parents ts)

-- a sync is sent exactly if some parent is gained
abbrev pub listing_if_any : Shown → Record → ℕ → List ℕ → Option Dispatch
listing_if_any now s user [] = None
listing_if_any now s user (p ∷ ps) = Some (listing s.id user (p ∷ ps) (threads_in now (p ∷ ps) s.threads))

-- the sync of what is shown now of a record, and was not shown before
abbrev pub list_sync : Shown → Shown → Record → ℕ → Option Dispatch
list_sync before now s user = listing_if_any now s user (gained_parents before now s)

-- the sync of what a member sees of a record, and was not shown before
abbrev pub uncovered_to : Shown → Record → Member → Option Dispatch
uncovered_to before s me = list_sync before (shown_to s me) s me.user.id

-- a user that is no member gains nothing
abbrev pub uncovered_of : Shown → Record → Option Member → Option Dispatch
uncovered_of before s None = None
uncovered_of before s (Some me) = uncovered_to before s me

abbrev pub uncovered : Shown → Record → ℕ → Option Dispatch
uncovered before s user = uncovered_of before s (find_id member_id user s.members)
