-- Gateway Events, Threads.
use Rattle.std.specs.Prelude.{◌≤◌, codes, false, None, option_map, Result, Ok, IfSome}
use Rattle.serde_json.specs.Data.{Data, object, member, no_members}
use Rattle.guild_model.specs.Numbers.{thread_kind_number}
use Rattle.dispatch_types.specs.declared.threads.ThreadCreate.{ThreadCreate}
use Rattle.dispatch_types.specs.declared.threads.ThreadDelete.{ThreadDelete}
use Rattle.dispatch_types.specs.declared.threads.ThreadListSync.{ThreadListSync}
use Rattle.dispatch_types.specs.declared.threads.ThreadMembersUpdate.{ThreadMembersUpdate}
use Rattle.object_json.specs.Kinds.{digits, count, list, list_if, member_if}
use Rattle.object_json.specs.Thread.{thread_data, thread_from, ThreadFits, thread_member_data, thread_member_from, ThreadMemberFits, thread_count_at}
use Rattle.json_view.specs.Fields.{and_then}
use Rattle.object_json.specs.declared.fault.ReadFault.{ReadFault}
use Rattle.object_json.specs.Reading.{id_at, id_from, is_there, thread_kind_at, list_at, list_if_at, optional_at}
use Rattle.object_json.specs.Fits.{Each, IsId}

-- the thread, and with it the bot's own membership
abbrev pub thread_create_data : ThreadCreate → Data
thread_create_data c = thread_data (option_map thread_member_data c.member) c.newly_created c.thread

abbrev pub thread_delete_data : ThreadDelete → Data
thread_delete_data d =
    object (member (codes "guild_id") (digits d.guild)
    (member (codes "id") (digits d.id)
    (member (codes "parent_id") (digits d.parent)
    (member (codes "type") (count (thread_kind_number d.kind))
    no_members))))

abbrev pub thread_list_sync_data : ThreadListSync → Data
thread_list_sync_data s =
    object (member (codes "channel_ids") (list digits s.channels)
    (member (codes "guild_id") (digits s.guild)
    (member (codes "members") (list thread_member_data s.members)
    (member (codes "threads") (list (thread_data None false) s.threads)
    no_members))))

abbrev pub thread_members_update_data : ThreadMembersUpdate → Data
thread_members_update_data u =
    object (member_if (codes "added_members") (list_if thread_member_data u.added)
    (member (codes "guild_id") (digits u.guild)
    (member (codes "id") (digits u.id)
    (member (codes "member_count") (count u.count)
    (member_if (codes "removed_member_ids") (list_if digits u.removed)
    no_members)))))

-- ---- reading

abbrev pub thread_create_from : Data → Result ThreadCreate ReadFault
thread_create_from d =
    and_then (thread_from d) (λ thread.
    and_then (optional_at thread_member_from (codes "member") d) (λ mine.
    Ok (record { thread = thread; newly_created = is_there (codes "newly_created") d; member = mine })))

abbrev pub ThreadCreateFits : ThreadCreate → Type 0
ThreadCreateFits c = IfSome c.member ThreadMemberFits × ThreadFits c.thread

abbrev pub thread_delete_from : Data → Result ThreadDelete ReadFault
thread_delete_from d =
    and_then (id_at (codes "guild_id") d) (λ guild.
    and_then (id_at (codes "id") d) (λ id.
    and_then (id_at (codes "parent_id") d) (λ parent.
    and_then (thread_kind_at (codes "type") d) (λ kind.
    Ok (record { guild = guild; id = id; parent = parent; kind = kind })))))

abbrev pub ThreadDeleteFits : ThreadDelete → Type 0
ThreadDeleteFits d = IsId d.guild × IsId d.id × IsId d.parent

abbrev pub thread_list_sync_from : Data → Result ThreadListSync ReadFault
thread_list_sync_from d =
    and_then (list_at id_from (codes "channel_ids") d) (λ channels.
    and_then (id_at (codes "guild_id") d) (λ guild.
    and_then (list_at thread_member_from (codes "members") d) (λ members.
    and_then (list_at thread_from (codes "threads") d) (λ threads.
    Ok (record { guild = guild; channels = channels; threads = threads; members = members })))))

abbrev pub ThreadListSyncFits : ThreadListSync → Type 0
ThreadListSyncFits s =
    Each IsId s.channels × IsId s.guild × Each ThreadMemberFits s.members × Each ThreadFits s.threads

abbrev pub thread_members_update_from : Data → Result ThreadMembersUpdate ReadFault
thread_members_update_from d =
    and_then (list_if_at thread_member_from (codes "added_members") d) (λ added.
    and_then (id_at (codes "guild_id") d) (λ guild.
    and_then (id_at (codes "id") d) (λ id.
    and_then (thread_count_at d) (λ users.
    and_then (list_if_at id_from (codes "removed_member_ids") d) (λ removed.
    Ok (record { guild = guild; id = id; count = users; added = added; removed = removed }))))))

abbrev pub ThreadMembersUpdateFits : ThreadMembersUpdate → Type 0
ThreadMembersUpdateFits u =
    Each ThreadMemberFits u.added × IsId u.guild × IsId u.id × (u.count ≤ 50) × Each IsId u.removed
