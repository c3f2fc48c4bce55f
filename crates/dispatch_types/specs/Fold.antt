-- What a client that asked for these intents makes of each dispatch, guild by guild (Gateway Events,
-- Receive Events).
use Rattle.std.specs.Prelude.{ℕ, ◌+◌, ◌-◌, ◌^◌, min, List, [], ◌∷◌, map, filter, Bool, true, false, not, ◌==◌, Option, Some, None, is_some, if◌then◌else◌, option_map, option_and_then}
use Rattle.std.specs.Option.{option_or}
use Rattle.std.specs.List.{find, filter_map, list_any}
use Rattle.collections.specs.ById.{find_id, put_id, put_all, without_id}
use Rattle.intent_set.specs.Intents.{guilds, guild_members, guild_presences}
use Rattle.guild_model.specs.declared.role.Role.{Role}
use Rattle.guild_model.specs.declared.member.Member.{Member}
use Rattle.guild_model.specs.declared.thread.ThreadMember.{ThreadMember}
use Rattle.guild_model.specs.declared.voice.Voice.{Voice}
use Rattle.guild_model.specs.declared.presence.Presence.{Presence}
use Rattle.guild_model.specs.Record.{own_id, role_id, member_id, channel_id, voice_id, presence_id}
use Rattle.guild_model.specs.Changes.{without_role, without_role_overwrite}
use Rattle.guild_model.specs.Sight.{Standing, sees_in}
use Rattle.dispatch_types.specs.declared.channels.ChannelObject.{ChannelObject}
use Rattle.dispatch_types.specs.declared.members.MemberObject.{MemberObject}
use Rattle.dispatch_types.specs.declared.threads.ThreadObject.{ThreadObject}
use Rattle.dispatch_types.specs.declared.threads.JoinedThread.{JoinedThread}
use Rattle.dispatch_types.specs.declared.threads.ThreadMemberObject.{ThreadMemberObject}
use Rattle.dispatch_types.specs.declared.guilds.GuildCreate.{GuildCreate as Create}
use Rattle.dispatch_types.specs.declared.ready.Ready.{Ready as ReadyOf}
use Rattle.dispatch_types.specs.declared.threads.ThreadListSync.{ThreadListSync as Sync}
use Rattle.dispatch_types.specs.declared.threads.ThreadMembersUpdate.{ThreadMembersUpdate as MembersUpdate}
use Rattle.dispatch_types.specs.declared.dispatch.Dispatch.{Dispatch}
use Rattle.dispatch_types.specs.declared.dispatch.Dispatch.TheVariants.{Ready, GuildCreate, GuildUpdate, GuildDelete, GuildRoleCreate, GuildRoleUpdate, GuildRoleDelete, ChannelCreate, ChannelUpdate, ChannelDelete, ThreadCreate, ThreadUpdate, ThreadDelete, ThreadListSync, ThreadMembersUpdate, GuildMemberAdd, GuildMemberUpdate, GuildMemberRemove, GuildMembersChunk, VoiceStateUpdate, PresenceUpdate}
use Rattle.dispatch_types.specs.declared.view.GuildView.{GuildView}
use Rattle.dispatch_types.specs.declared.view.GuildView.TheVariants.{Unavailable, Open}
use Rattle.dispatch_types.specs.declared.view.OpenView.{OpenView}
use Rattle.dispatch_types.specs.declared.view.ThreadView.{ThreadView}
use Rattle.dispatch_types.specs.Objects.{channel_of, member_of, thread_member_of, voice_of, presence_of}
use Rattle.dispatch_types.specs.Projection.{told, listed}
use Rattle.dispatch_types.specs.GuildOf.{guild_of}

-- what a client holds of one guild: the bot of the last READY, the view, and the users that it was told of
pub record Held : Type 0 where
  pub bot : ℕ
  pub view : Option GuildView
  pub known : List ℕ

-- before the first READY
abbrev pub nothing : Held
nothing = record { bot = 0; view = None; known = [] }

abbrev pub thread_view_id : ThreadView → ℕ
thread_view_id t = t.id

abbrev pub contains : ℕ → List ℕ → Bool
contains id ids = list_any (λ x. x == id) ids

abbrev pub user_id : MemberObject → ℕ
user_id o = o.user.id

-- the client's own member among some
abbrev pub own_member : ℕ → List MemberObject → Option Member
own_member bot os = option_map member_of (find (λ o. user_id o == bot) os)

abbrev pub thread_of : ℕ → Option ThreadMember → ThreadObject → ThreadView
thread_of intents mine t = record { id = t.id; kind = t.kind; name = t.name; owner = t.owner; parent = t.parent; mine = mine; count = told intents guild_members t.count }

-- a thread of GUILD_CREATE
abbrev pub joined_thread : ℕ → ℕ → JoinedThread → ThreadView
joined_thread intents bot t = thread_of intents (option_map (λ joined. record { user = bot; joined = joined }) t.joined) t.thread

abbrev pub created : ℕ → ℕ → Create → Member → OpenView
created intents bot c me = record {
  name = c.name;
  owner = c.owner;
  me = me;
  roles = put_all role_id [] c.roles;
  channels = put_all channel_id [] (map channel_of c.channels);
  members = listed intents guild_members (put_all member_id [] (map member_of c.members));
  member_count = told intents guild_members c.member_count;
  threads = put_all thread_view_id [] (map (joined_thread intents bot) c.threads);
  voices = put_all voice_id [] (filter_map voice_of c.voices);
  presences = listed intents guild_presences (put_all presence_id [] (filter_map presence_of c.presences));
}

-- a client without GUILDS holds no view; nor does one that is not told its own member
abbrev pub created_view : ℕ → ℕ → Create → Option GuildView
created_view intents bot c = option_and_then (λ me. told intents guilds (Open (created intents bot c me))) (own_member bot c.members)

abbrev pub if_unavailable : ℕ → Bool → Option GuildView
if_unavailable intents unavailable = if unavailable then told intents guilds Unavailable else None

-- changes of an open view
abbrev pub set_channel : ChannelObject → OpenView → OpenView
set_channel o v = record v { channels = put_id channel_id (channel_of o) v.channels }

-- with its threads and the voice states in it (Gateway Events, Channel Delete)
abbrev pub drop_channel : ℕ → OpenView → OpenView
drop_channel id v = record v {
  channels = without_id channel_id id v.channels;
  threads = filter (λ (t : ThreadView). not (t.parent == id)) v.threads;
  voices = filter (λ (voice : Voice). not (voice.channel == id)) v.voices;
}

abbrev pub set_role : Role → OpenView → OpenView
set_role r v = record v { roles = put_id role_id r v.roles }

abbrev pub drop_role : ℕ → OpenView → OpenView
drop_role id v = record v { roles = without_id role_id id v.roles; me = without_role id v.me; members = map (without_role id) v.members; channels = map (without_role_overwrite id) v.channels }

abbrev pub set_thread : ThreadView → OpenView → OpenView
set_thread t v = record v { threads = put_id thread_view_id t v.threads }

abbrev pub drop_thread : ℕ → OpenView → OpenView
drop_thread id v = record v { threads = without_id thread_view_id id v.threads }

abbrev pub mine_of : Option ThreadView → Option ThreadMember
mine_of None = None
mine_of (Some t) = t.mine

-- an archived thread goes; another is set, with the own membership as it was
abbrev pub update_thread : ℕ → ThreadObject → OpenView → OpenView
update_thread intents t v = if t.archived then drop_thread t.id v else set_thread (thread_of intents (mine_of (find_id thread_view_id t.id v.threads)) t) v

-- a listed thread, with the own membership among those listed
abbrev pub synced_thread : ℕ → List ThreadMemberObject → ThreadObject → ThreadView
synced_thread intents ms t = thread_of intents (option_map thread_member_of (find (λ (m : ThreadMemberObject). m.thread == t.id) ms)) t

-- all threads of the listed parents go, and those listed come
abbrev pub sync_threads : ℕ → Sync → OpenView → OpenView
sync_threads intents sync v = record v { threads = put_all thread_view_id (filter (λ (t : ThreadView). not (contains t.parent sync.channels)) v.threads) (map (synced_thread intents sync.members) sync.threads) }

-- the own membership, where one of the lists names the bot
abbrev pub mine_after : ℕ → List ThreadMemberObject → List ℕ → Option ThreadMember → Option ThreadMember
mine_after bot added removed mine = option_or (option_map thread_member_of (find (λ (m : ThreadMemberObject). m.user == bot) added)) (if contains bot removed then None else mine)

abbrev pub members_updated : ℕ → ℕ → MembersUpdate → ThreadView → ThreadView
members_updated intents bot update t = record t { mine = mine_after bot update.added update.removed t.mine; count = told intents guild_members update.count }

abbrev pub update_members : ℕ → ℕ → MembersUpdate → OpenView → OpenView
update_members intents bot update v = record v { threads = map (λ (t : ThreadView). if t.id == update.id then members_updated intents bot update t else t) v.threads }

abbrev pub one_more : ℕ → ℕ
one_more n = min (n + 1) (2 ^ 64 - 1)

abbrev pub one_less : ℕ → ℕ
one_less n = n - 1

abbrev pub set_members : ℕ → List Member → OpenView → OpenView
set_members intents ms v = record v { members = listed intents guild_members (put_all member_id v.members ms) }

abbrev pub add_member : ℕ → Member → OpenView → OpenView
add_member intents m v = record v { members = listed intents guild_members (put_id member_id m v.members); member_count = option_map one_more v.member_count }

abbrev pub set_me : ℕ → Member → OpenView → OpenView
set_me bot m v = if m.user.id == bot then record v { me = m } else v

abbrev pub update_member : ℕ → ℕ → Member → OpenView → OpenView
update_member intents bot m v = set_me bot m (record v { members = listed intents guild_members (put_id member_id m v.members) })

abbrev pub remove_member : ℕ → OpenView → OpenView
remove_member user v = record v { members = without_id member_id user v.members; member_count = option_map one_less v.member_count }

abbrev pub set_voice : ℕ → Option Voice → OpenView → OpenView
set_voice user None v = record v { voices = without_id voice_id user v.voices }
set_voice user (Some voice) v = record v { voices = put_id voice_id voice v.voices }

abbrev pub set_presence : ℕ → Option Presence → OpenView → OpenView
set_presence user None v = record v { presences = without_id presence_id user v.presences }
set_presence user (Some p) v = record v { presences = put_id presence_id p v.presences }

-- a change of an open view
abbrev pub on_open : (OpenView → OpenView) → Option GuildView → Option GuildView
on_open f None = None
on_open f (Some Unavailable) = Some Unavailable
on_open f (Some (Open v)) = Some (Open (f v))

-- the users of a guild that a client was told of, after a dispatch of this guild
abbrev pub known_after : Dispatch → List ℕ → List ℕ
known_after (GuildCreate create) known = put_all own_id [] (map user_id create.members)
known_after (GuildDelete delete) known = []
known_after (GuildMemberAdd member) known = put_id own_id member.member.user.id known
known_after (GuildMemberUpdate member) known = put_id own_id member.member.user.id known
known_after (GuildMemberRemove remove) known = without_id own_id remove.user.id known
known_after (GuildMembersChunk chunk) known = put_all own_id known (map user_id chunk.members)
known_after _ known = known

module _ (intents bot : ℕ) where
  -- the row of each kind: what it makes of the open view of its guild; dispatches about messages change none
  abbrev pub open_after : Dispatch → OpenView → OpenView
  open_after (GuildUpdate update) v = record v { name = update.name; owner = update.owner }
  open_after (GuildRoleCreate role) v = set_role role.role v
  open_after (GuildRoleUpdate role) v = set_role role.role v
  open_after (GuildRoleDelete delete) v = drop_role delete.role v
  open_after (ChannelCreate channel) v = set_channel channel v
  open_after (ChannelUpdate channel) v = set_channel channel v
  open_after (ChannelDelete channel) v = drop_channel channel.id v
  open_after (ThreadCreate create) v = set_thread (thread_of intents (option_map thread_member_of create.member) create.thread) v
  open_after (ThreadUpdate thread) v = update_thread intents thread v
  open_after (ThreadDelete delete) v = drop_thread delete.id v
  open_after (ThreadListSync sync) v = sync_threads intents sync v
  open_after (ThreadMembersUpdate update) v = update_members intents bot update v
  open_after (GuildMemberAdd member) v = add_member intents (member_of member.member) v
  open_after (GuildMemberUpdate member) v = update_member intents bot (member_of member.member) v
  open_after (GuildMemberRemove remove) v = remove_member remove.user.id v
  open_after (GuildMembersChunk chunk) v = set_members intents (map member_of chunk.members) v
  open_after (VoiceStateUpdate update) v = set_voice update.voice.user (voice_of update.voice) v
  open_after (PresenceUpdate presence) v = set_presence presence.user (presence_of presence) v
  open_after _ v = v

  -- a guild without an open view is changed by READY, GUILD_CREATE and GUILD_DELETE alone
  abbrev pub view_after : Dispatch → Option GuildView → Option GuildView
  view_after (GuildCreate create) view = created_view intents bot create
  view_after (GuildDelete delete) view = if_unavailable intents delete.unavailable
  view_after d view = on_open (open_after d) view

-- what is held of a guild after a dispatch of it
abbrev pub after : ℕ → Dispatch → Held → Held
after intents d h = record h { view = view_after intents h.bot d h.view; known = known_after d h.known }

-- the own membership of an unarchived private thread comes with the dispatch after THREAD_UPDATE, so
-- that a thread which is not seen yet may stay until then
abbrev pub leaves_over : Dispatch → Bool
leaves_over (ThreadUpdate thread) = true
leaves_over _ = false

abbrev pub is_of : ℕ → Option ℕ → Bool
is_of g None = false
is_of g (Some a) = a == g

module _ (intents g : ℕ) where
  -- READY begins anew, with the guilds that it lists
  abbrev pub readied : ReadyOf → Held
  readied ready = record { bot = ready.user.id; view = if_unavailable intents (contains g ready.guilds); known = [] }

  -- any other dispatch changes what is held of its own guild alone
  abbrev pub changed : Held → Dispatch → Held
  changed h (Ready ready) = readied ready
  changed h d = if is_of g (guild_of d) then after intents d h else h

  -- a client drops each thread that its bot does not see, by its own view alone
  abbrev pub view_standing : OpenView → Standing
  view_standing v = record { guild = g; owner = v.owner; roles = v.roles; channels = v.channels; me = v.me }

  abbrev pub view_sees : OpenView → ThreadView → Bool
  view_sees v t = sees_in (view_standing v) t.parent t.kind (is_some t.mine)

  abbrev pub purged : OpenView → OpenView
  purged v = record v { threads = filter (view_sees v) v.threads }

  abbrev pub purge : Held → Held
  purge h = record h { view = on_open purged h.view }

  unfoldable pub folded : Held → Dispatch → Held
  folded h d = if leaves_over d then changed h d else purge (changed h d)

  abbrev pub fold_from : Held → List Dispatch → Held
  fold_from h [] = h
  fold_from h (d ∷ ds) = fold_from (folded h d) ds

  -- what a client holds after these dispatches
  abbrev pub fold : List Dispatch → Held
  fold ds = fold_from nothing ds
