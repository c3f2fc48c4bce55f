-- Channels Resource, Thread Member Object; Threads, Thread Fields.
use Rattle.std.specs.Prelude.{ℕ, codes, Bool, false, Option, option_map, Result, Ok, ◌≤◌, IfSome}
use Rattle.serde_json.specs.Data.{Data, boolean, string, object, Members, member, no_members}
use Rattle.guild_model.specs.Numbers.{thread_kind_number}
use Rattle.dispatch_types.specs.declared.threads.ThreadMemberObject.{ThreadMemberObject}
use Rattle.dispatch_types.specs.declared.threads.ThreadObject.{ThreadObject}
use Rattle.dispatch_types.specs.declared.threads.JoinedThread.{JoinedThread}
use Rattle.object_json.specs.Kinds.{digits, count, time, member_if, true_if}
use Rattle.json_view.specs.Fields.{and_then}
use Rattle.object_json.specs.declared.fault.ReadFault.{ReadFault}
use Rattle.object_json.specs.Reading.{id_at, text_at, flag_at, field_at, number_below, time_at, thread_kind_at, optional_at}
use Rattle.object_json.specs.Fits.{IsId, IsMoment}

abbrev pub thread_member_data : ThreadMemberObject → Data
thread_member_data m =
    object (member (codes "flags") (count 0)
    (member (codes "id") (digits m.thread)
    (member (codes "join_timestamp") (time m.joined)
    (member (codes "user_id") (digits m.user)
    no_members))))

-- in Guild Create the thread and the user are left out
abbrev pub joined_data : ℕ → Data
joined_data joined =
    object (member (codes "flags") (count 0)
    (member (codes "join_timestamp") (time joined)
    no_members))

abbrev pub metadata_data : Bool → Data
metadata_data archived =
    object (member (codes "archived") (boolean archived)
    (member (codes "locked") (boolean false)
    no_members))

-- what follows the bot's own membership
abbrev pub thread_rest : Bool → ThreadObject → Members
thread_rest newly t =
    member (codes "member_count") (count t.count)
    (member (codes "name") (string t.name)
    (member_if (codes "newly_created") (true_if newly)
    (member (codes "owner_id") (digits t.owner)
    (member (codes "parent_id") (digits t.parent)
    (member (codes "thread_metadata") (metadata_data t.archived)
    (member (codes "type") (count (thread_kind_number t.kind))
    no_members))))))

abbrev pub thread_data : Option Data → Bool → ThreadObject → Data
thread_data mine newly t =
    object (member (codes "guild_id") (digits t.guild)
    (member (codes "id") (digits t.id)
    (member_if (codes "member") mine
    (thread_rest newly t))))

abbrev pub joined_thread_data : JoinedThread → Data
joined_thread_data t = thread_data (option_map joined_data t.joined) false t.thread

-- ---- reading

abbrev pub thread_member_from : Data → Result ThreadMemberObject ReadFault
thread_member_from d =
    and_then (id_at (codes "id") d) (λ thread.
    and_then (time_at (codes "join_timestamp") d) (λ joined.
    and_then (id_at (codes "user_id") d) (λ user.
    Ok (record { thread = thread; user = user; joined = joined }))))

abbrev pub ThreadMemberFits : ThreadMemberObject → Type 0
ThreadMemberFits m = IsId m.thread × IsMoment m.joined × IsId m.user

abbrev pub joined_from : Data → Result ℕ ReadFault
joined_from d = time_at (codes "join_timestamp") d

abbrev pub thread_count_at : Data → Result ℕ ReadFault
thread_count_at d = number_below 51 (codes "member_count") d

abbrev pub archived_at : Data → Result Bool ReadFault
archived_at d = and_then (field_at (codes "thread_metadata") d) (flag_at (codes "archived"))

abbrev pub thread_from : Data → Result ThreadObject ReadFault
thread_from d =
    and_then (id_at (codes "guild_id") d) (λ guild.
    and_then (id_at (codes "id") d) (λ id.
    and_then (thread_count_at d) (λ count.
    and_then (text_at (codes "name") d) (λ name.
    and_then (id_at (codes "owner_id") d) (λ owner.
    and_then (id_at (codes "parent_id") d) (λ parent.
    and_then (archived_at d) (λ archived.
    and_then (thread_kind_at (codes "type") d) (λ kind.
    Ok (record { guild = guild; id = id; kind = kind; name = name; owner = owner; parent = parent; archived = archived; count = count })))))))))

abbrev pub ThreadRestFits : ThreadObject → Type 0
ThreadRestFits t = (t.count ≤ 50) × IsId t.owner × IsId t.parent

abbrev pub ThreadFits : ThreadObject → Type 0
ThreadFits t = IsId t.guild × IsId t.id × ThreadRestFits t

abbrev pub joined_thread_from : Data → Result JoinedThread ReadFault
joined_thread_from d =
    and_then (thread_from d) (λ thread.
    and_then (optional_at joined_from (codes "member") d) (λ joined.
    Ok (record { thread = thread; joined = joined })))

abbrev pub JoinedThreadFits : JoinedThread → Type 0
JoinedThreadFits t = ThreadFits t.thread × IfSome t.joined IsMoment
