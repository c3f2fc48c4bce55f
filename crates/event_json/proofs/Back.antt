-- What is written for a dispatch is read as that dispatch.
use Rattle.std.proofs.Common.{◌≡◌, ℕ, ◌≤◌, List, [], ◌∷◌, map, Bool, true, false, Option, Some, None, Ok, refl, ap, arith}
use Rattle.std.specs.Prelude.{nat_lt}
use Rattle.serde_json.specs.View.{items_of}
use Rattle.serde_json.proofs.OnLiterals.{serde_json_on_literals}
use Rattle.guild_model.specs.declared.user.User.{User}
use Rattle.dispatch_types.specs.declared.members.MemberObject.{MemberObject}
use Rattle.dispatch_types.specs.declared.threads.ThreadMemberObject.{ThreadMemberObject}
use Rattle.dispatch_types.specs.declared.threads.ThreadObject.{ThreadObject}
use Rattle.dispatch_types.specs.declared.presences.PresenceObject.{PresenceObject}
use Rattle.dispatch_types.specs.declared.messages.Reaction.{Reaction}
use Rattle.dispatch_types.specs.declared.guilds.GuildCreate.{GuildCreate}
use Rattle.dispatch_types.specs.declared.guilds.GuildUpdate.{GuildUpdate}
use Rattle.dispatch_types.specs.declared.guilds.GuildDelete.{GuildDelete}
use Rattle.dispatch_types.specs.declared.roles.GuildRole.{GuildRole}
use Rattle.dispatch_types.specs.declared.roles.GuildRoleDelete.{GuildRoleDelete}
use Rattle.dispatch_types.specs.declared.threads.ThreadCreate.{ThreadCreate}
use Rattle.dispatch_types.specs.declared.threads.ThreadDelete.{ThreadDelete}
use Rattle.dispatch_types.specs.declared.threads.ThreadListSync.{ThreadListSync}
use Rattle.dispatch_types.specs.declared.threads.ThreadMembersUpdate.{ThreadMembersUpdate}
use Rattle.dispatch_types.specs.declared.members.GuildMember.{GuildMember}
use Rattle.dispatch_types.specs.declared.members.GuildMemberRemove.{GuildMemberRemove}
use Rattle.dispatch_types.specs.declared.members.MembersChunk.{MembersChunk}
use Rattle.dispatch_types.specs.declared.presences.VoiceStateUpdate.{VoiceStateUpdate}
use Rattle.dispatch_types.specs.declared.messages.MessageDelete.{MessageDelete}
use Rattle.dispatch_types.specs.declared.messages.TypingStart.{TypingStart}
use Rattle.dispatch_types.specs.declared.ready.Ready.{Ready}
use Rattle.dispatch_types.specs.declared.dispatch.Dispatch.{Dispatch}
use Rattle.dispatch_types.specs.declared.dispatch.Dispatch.TheVariants as dispatch
use Rattle.dispatch_types.specs.Kinds.{kind_of}
use Rattle.object_json.specs.Fits.{Each, IsId}
use Rattle.object_json.specs.Role.{role_data, role_from, RoleFits}
use Rattle.object_json.specs.Channel.{channel_data, channel_from, ChannelFits}
use Rattle.object_json.specs.Member.{member_data, member_from, MemberFits}
use Rattle.object_json.specs.Thread.{thread_member_data, thread_member_from, ThreadMemberFits, thread_data, thread_from, ThreadFits, joined_thread_data, joined_thread_from, JoinedThreadFits}
use Rattle.object_json.specs.Voice.{voice_data, voice_from, VoiceFits}
use Rattle.object_json.specs.Presence.{presence_data, presence_from, PresenceFits}
use Rattle.event_json.specs.Ready.{ready_data, ready_from, ReadyFits, unavailable_data, unavailable_from}
use Rattle.event_json.specs.Guild.{guild_create_data, guild_create_from, GuildCreateFits, guild_update_data, guild_update_from, GuildUpdateFits, guild_delete_data, guild_delete_from, GuildDeleteFits, guild_role_data, guild_role_from, GuildRoleFits, guild_role_delete_data, guild_role_delete_from, GuildRoleDeleteFits}
use Rattle.event_json.specs.Thread.{thread_create_data, thread_create_from, ThreadCreateFits, thread_delete_data, thread_delete_from, ThreadDeleteFits, thread_list_sync_data, thread_list_sync_from, ThreadListSyncFits, thread_members_update_data, thread_members_update_from, ThreadMembersUpdateFits}
use Rattle.event_json.specs.Member.{guild_member_data, guild_member_from, GuildMemberFits, guild_member_remove_data, guild_member_remove_from, GuildMemberRemoveFits, members_chunk_data, members_chunk_from, ChunkFits}
use Rattle.event_json.specs.Voice.{voice_state_update_data, voice_state_update_from, VoiceStateUpdateFits}
use Rattle.event_json.specs.Message.{message_delete_data, message_delete_from, MessageDeleteFits, reaction_data, reaction_from, ReactionFits, typing_start_data, typing_start_from, TypingStartFits}
use Rattle.event_json.specs.Body.{body_data, reads_as, body_from, DispatchFits}
use Rattle.snowflake_id.proofs.Texts.{id_of_decimal}
use Rattle.guild_model.proofs.Numbers.{thread_kind_back}
use Rattle.object_json.specs.Reading.{items_from}
use Rattle.object_json.proofs.Back.{below, items_back, ids_back, user_back, role_back, channel_back, member_back, thread_member_back, thread_back, joined_thread_back, voice_back, presence_back, message_back}

above_zero : (n : ℕ) → 1 ≤ n → nat_lt 0 n ≡ true
above_zero n h = below 0 n (omega (arith, h))

unavailable_back : (id : ℕ) → IsId id → unavailable_from (unavailable_data id) ≡ Ok id
unfolding serde_json_on_literals
unavailable_back id h = rw (id_of_decimal id h) refl

guilds_back : (ids : List ℕ) → Each IsId ids → items_from unavailable_from (items_of (map unavailable_data ids)) ≡ Ok ids
guilds_back ids h = items_back unavailable_from unavailable_data IsId unavailable_back ids h

parted_ready_back : (user : User) (guilds : List ℕ) (session url : List ℕ) (shard : Option (ℕ × ℕ)) →
    let r : Ready = record { user = user; guilds = guilds; session = session; url = url; shard = shard } in
    ReadyFits r → ready_from (ready_data r) ≡ Ok r
unfolding serde_json_on_literals
parted_ready_back user guilds session url None h = rw (guilds_back guilds h.1, user_back user h.0) refl
parted_ready_back user guilds session url (Some shard) h = rw (guilds_back guilds h.1, user_back user h.0, above_zero shard.1 h.2.2) refl

ready_back : (r : Ready) → ReadyFits r → ready_from (ready_data r) ≡ Ok r
ready_back r h = parted_ready_back r.user r.guilds r.session r.url r.shard h

members_back : (members : List MemberObject) → Each MemberFits members → items_from member_from (items_of (map (member_data None) members)) ≡ Ok members
members_back members h = items_back member_from (member_data None) MemberFits (member_back None) members h

guild_create_back : (g : GuildCreate) → GuildCreateFits g → guild_create_from (guild_create_data g) ≡ Ok g
unfolding serde_json_on_literals
guild_create_back g h =
    rw (
      items_back channel_from channel_data ChannelFits channel_back g.channels h.0,
      id_of_decimal g.id h.1,
      members_back g.members h.3,
      id_of_decimal g.owner h.4.0,
      items_back presence_from presence_data PresenceFits presence_back g.presences h.4.1,
      items_back role_from role_data RoleFits role_back g.roles h.4.2,
      items_back joined_thread_from joined_thread_data JoinedThreadFits joined_thread_back g.threads h.4.3,
      items_back voice_from (voice_data None) VoiceFits (voice_back None) g.voices h.4.4,
    ) refl

guild_update_back : (u : GuildUpdate) → GuildUpdateFits u → guild_update_from (guild_update_data u) ≡ Ok u
unfolding serde_json_on_literals
guild_update_back u h = rw (id_of_decimal u.id h.0, id_of_decimal u.owner h.1) refl

parted_delete_back : (id : ℕ) (unavailable : Bool) →
    let d : GuildDelete = record { id = id; unavailable = unavailable } in
    GuildDeleteFits d → guild_delete_from (guild_delete_data d) ≡ Ok d
unfolding serde_json_on_literals
parted_delete_back id true h = rw (id_of_decimal id h) refl
parted_delete_back id false h = rw (id_of_decimal id h) refl

guild_delete_back : (d : GuildDelete) → GuildDeleteFits d → guild_delete_from (guild_delete_data d) ≡ Ok d
guild_delete_back d h = parted_delete_back d.id d.unavailable h

guild_role_back : (r : GuildRole) → GuildRoleFits r → guild_role_from (guild_role_data r) ≡ Ok r
unfolding serde_json_on_literals
guild_role_back r h = rw (id_of_decimal r.guild h.0, role_back r.role h.1) refl

guild_role_delete_back : (d : GuildRoleDelete) → GuildRoleDeleteFits d → guild_role_delete_from (guild_role_delete_data d) ≡ Ok d
unfolding serde_json_on_literals
guild_role_delete_back d h = rw (id_of_decimal d.guild h.0, id_of_decimal d.role h.1) refl

parted_create_back : (thread : ThreadObject) (newly : Bool) (mine : Option ThreadMemberObject) →
    let c : ThreadCreate = record { thread = thread; newly_created = newly; member = mine } in
    ThreadCreateFits c → thread_create_from (thread_create_data c) ≡ Ok c
unfolding serde_json_on_literals
parted_create_back thread true None h = rw (thread_back None true thread h.1) refl
parted_create_back thread true (Some mine) h = rw (thread_back (Some (thread_member_data mine)) true thread h.1, thread_member_back mine h.0) refl
parted_create_back thread false None h = rw (thread_back None false thread h.1) refl
parted_create_back thread false (Some mine) h = rw (thread_back (Some (thread_member_data mine)) false thread h.1, thread_member_back mine h.0) refl

thread_create_back : (c : ThreadCreate) → ThreadCreateFits c → thread_create_from (thread_create_data c) ≡ Ok c
thread_create_back c h = parted_create_back c.thread c.newly_created c.member h

thread_delete_back : (d : ThreadDelete) → ThreadDeleteFits d → thread_delete_from (thread_delete_data d) ≡ Ok d
unfolding serde_json_on_literals
thread_delete_back d h = rw (id_of_decimal d.guild h.0, id_of_decimal d.id h.1, id_of_decimal d.parent h.2, thread_kind_back d.kind) refl

thread_list_sync_back : (s : ThreadListSync) → ThreadListSyncFits s → thread_list_sync_from (thread_list_sync_data s) ≡ Ok s
unfolding serde_json_on_literals
thread_list_sync_back s h =
    rw (
      ids_back s.channels h.0,
      id_of_decimal s.guild h.1,
      items_back thread_member_from thread_member_data ThreadMemberFits thread_member_back s.members h.2,
      items_back thread_from (thread_data None false) ThreadFits (thread_back None false) s.threads h.3,
    ) refl

thread_members_back : (members : List ThreadMemberObject) → Each ThreadMemberFits members → items_from thread_member_from (items_of (map thread_member_data members)) ≡ Ok members
thread_members_back members h = items_back thread_member_from thread_member_data ThreadMemberFits thread_member_back members h

parted_update_back : (guild id users : ℕ) (added : List ThreadMemberObject) (removed : List ℕ) →
    let u : ThreadMembersUpdate = record { guild = guild; id = id; count = users; added = added; removed = removed } in
    ThreadMembersUpdateFits u → thread_members_update_from (thread_members_update_data u) ≡ Ok u
unfolding serde_json_on_literals
parted_update_back guild id users [] [] h = rw (id_of_decimal guild h.1, id_of_decimal id h.2, below users 51 (omega (arith, h.3))) refl
parted_update_back guild id users [] (x ∷ removed) h = rw (id_of_decimal guild h.1, id_of_decimal id h.2, below users 51 (omega (arith, h.3)), id_of_decimal x h.4.0, ids_back removed h.4.1) refl
parted_update_back guild id users (m ∷ added) [] h = rw (thread_member_back m h.0.0, thread_members_back added h.0.1, id_of_decimal guild h.1, id_of_decimal id h.2, below users 51 (omega (arith, h.3))) refl
parted_update_back guild id users (m ∷ added) (x ∷ removed) h = rw (thread_member_back m h.0.0, thread_members_back added h.0.1, id_of_decimal guild h.1, id_of_decimal id h.2, below users 51 (omega (arith, h.3)), id_of_decimal x h.4.0, ids_back removed h.4.1) refl

thread_members_update_back : (u : ThreadMembersUpdate) → ThreadMembersUpdateFits u → thread_members_update_from (thread_members_update_data u) ≡ Ok u
thread_members_update_back u h = parted_update_back u.guild u.id u.count u.added u.removed h

guild_member_back : (m : GuildMember) → GuildMemberFits m → guild_member_from (guild_member_data m) ≡ Ok m
unfolding serde_json_on_literals
guild_member_back m h = rw (id_of_decimal m.guild h.0, member_back (Some m.guild) m.member h.1) refl

guild_member_remove_back : (r : GuildMemberRemove) → GuildMemberRemoveFits r → guild_member_remove_from (guild_member_remove_data r) ≡ Ok r
unfolding serde_json_on_literals
guild_member_remove_back r h = rw (id_of_decimal r.guild h.0, user_back r.user h.1) refl

voice_state_update_back : (u : VoiceStateUpdate) → VoiceStateUpdateFits u → voice_state_update_from (voice_state_update_data u) ≡ Ok u
unfolding serde_json_on_literals
voice_state_update_back u h = rw (id_of_decimal u.guild h.0, voice_back (Some u.guild) u.voice h.1) refl

message_delete_back : (d : MessageDelete) → MessageDeleteFits d → message_delete_from (message_delete_data d) ≡ Ok d
unfolding serde_json_on_literals
message_delete_back d h = rw (id_of_decimal d.channel h.0, id_of_decimal d.guild h.1, id_of_decimal d.id h.2) refl

typing_start_back : (t : TypingStart) → TypingStartFits t → typing_start_from (typing_start_data t) ≡ Ok t
unfolding serde_json_on_literals
typing_start_back t h = rw (id_of_decimal t.channel h.0, id_of_decimal t.guild h.1, id_of_decimal t.user h.3) refl

reaction_back : (r : Reaction) → ReactionFits r → reaction_from (reaction_data r) ≡ Ok r
unfolding serde_json_on_literals
reaction_back r h = rw (id_of_decimal r.channel h.0, id_of_decimal r.guild h.1, id_of_decimal r.message h.2, id_of_decimal r.user h.3) refl

presences_back : (ps : List PresenceObject) → Each PresenceFits ps → items_from presence_from (items_of (map presence_data ps)) ≡ Ok ps
presences_back ps h = items_back presence_from presence_data PresenceFits presence_back ps h

parted_chunk_back : (guild : ℕ) (members : List MemberObject) (index chunks : ℕ) (nonce : Option (List ℕ)) (others : List ℕ) (presences : Option (List PresenceObject)) →
    let c : MembersChunk = record { guild = guild; members = members; index = index; count = chunks; nonce = nonce; not_found = others; presences = presences } in
    ChunkFits c → members_chunk_from (members_chunk_data c) ≡ Ok c
unfolding serde_json_on_literals
parted_chunk_back guild members index chunks None [] None h = rw (id_of_decimal guild h.2, members_back members h.3) refl
parted_chunk_back guild members index chunks None [] (Some ps) h = rw (id_of_decimal guild h.2, members_back members h.3, presences_back ps h.5) refl
parted_chunk_back guild members index chunks None (x ∷ others) None h = rw (id_of_decimal guild h.2, members_back members h.3, id_of_decimal x h.4.0, ids_back others h.4.1) refl
parted_chunk_back guild members index chunks None (x ∷ others) (Some ps) h = rw (id_of_decimal guild h.2, members_back members h.3, id_of_decimal x h.4.0, ids_back others h.4.1, presences_back ps h.5) refl
parted_chunk_back guild members index chunks (Some nonce) [] None h = rw (id_of_decimal guild h.2, members_back members h.3) refl
parted_chunk_back guild members index chunks (Some nonce) [] (Some ps) h = rw (id_of_decimal guild h.2, members_back members h.3, presences_back ps h.5) refl
parted_chunk_back guild members index chunks (Some nonce) (x ∷ others) None h = rw (id_of_decimal guild h.2, members_back members h.3, id_of_decimal x h.4.0, ids_back others h.4.1) refl
parted_chunk_back guild members index chunks (Some nonce) (x ∷ others) (Some ps) h = rw (id_of_decimal guild h.2, members_back members h.3, id_of_decimal x h.4.0, ids_back others h.4.1, presences_back ps h.5) refl

chunk_back : (c : MembersChunk) → ChunkFits c → members_chunk_from (members_chunk_data c) ≡ Ok c
chunk_back c h = parted_chunk_back c.guild c.members c.index c.count c.nonce c.not_found c.presences h

pub body_back : (d : Dispatch) → DispatchFits d → body_from (kind_of d) (body_data d) ≡ Ok d
body_back (dispatch.Ready ready) h = ap (reads_as dispatch.Ready) (ready_back ready h)
body_back dispatch.Resumed h = refl
body_back (dispatch.GuildCreate create) h = ap (reads_as dispatch.GuildCreate) (guild_create_back create h)
body_back (dispatch.GuildUpdate update) h = ap (reads_as dispatch.GuildUpdate) (guild_update_back update h)
body_back (dispatch.GuildDelete delete) h = ap (reads_as dispatch.GuildDelete) (guild_delete_back delete h)
body_back (dispatch.GuildRoleCreate role) h = ap (reads_as dispatch.GuildRoleCreate) (guild_role_back role h)
body_back (dispatch.GuildRoleUpdate role) h = ap (reads_as dispatch.GuildRoleUpdate) (guild_role_back role h)
body_back (dispatch.GuildRoleDelete delete) h = ap (reads_as dispatch.GuildRoleDelete) (guild_role_delete_back delete h)
body_back (dispatch.ChannelCreate channel) h = ap (reads_as dispatch.ChannelCreate) (channel_back channel h)
body_back (dispatch.ChannelUpdate channel) h = ap (reads_as dispatch.ChannelUpdate) (channel_back channel h)
body_back (dispatch.ChannelDelete channel) h = ap (reads_as dispatch.ChannelDelete) (channel_back channel h)
body_back (dispatch.ThreadCreate create) h = ap (reads_as dispatch.ThreadCreate) (thread_create_back create h)
body_back (dispatch.ThreadUpdate thread) h = ap (reads_as dispatch.ThreadUpdate) (thread_back None false thread h)
body_back (dispatch.ThreadDelete delete) h = ap (reads_as dispatch.ThreadDelete) (thread_delete_back delete h)
body_back (dispatch.ThreadListSync sync) h = ap (reads_as dispatch.ThreadListSync) (thread_list_sync_back sync h)
body_back (dispatch.ThreadMembersUpdate update) h = ap (reads_as dispatch.ThreadMembersUpdate) (thread_members_update_back update h)
body_back (dispatch.GuildMemberAdd member) h = ap (reads_as dispatch.GuildMemberAdd) (guild_member_back member h)
body_back (dispatch.GuildMemberUpdate member) h = ap (reads_as dispatch.GuildMemberUpdate) (guild_member_back member h)
body_back (dispatch.GuildMemberRemove remove) h = ap (reads_as dispatch.GuildMemberRemove) (guild_member_remove_back remove h)
body_back (dispatch.GuildMembersChunk chunk) h = ap (reads_as dispatch.GuildMembersChunk) (chunk_back chunk h)
body_back (dispatch.VoiceStateUpdate update) h = ap (reads_as dispatch.VoiceStateUpdate) (voice_state_update_back update h)
body_back (dispatch.PresenceUpdate presence) h = ap (reads_as dispatch.PresenceUpdate) (presence_back presence h)
body_back (dispatch.MessageCreate message) h = ap (reads_as dispatch.MessageCreate) (message_back message h)
body_back (dispatch.MessageUpdate message) h = ap (reads_as dispatch.MessageUpdate) (message_back message h)
body_back (dispatch.MessageDelete delete) h = ap (reads_as dispatch.MessageDelete) (message_delete_back delete h)
body_back (dispatch.MessageReactionAdd reaction) h = ap (reads_as dispatch.MessageReactionAdd) (reaction_back reaction h)
body_back (dispatch.MessageReactionRemove reaction) h = ap (reads_as dispatch.MessageReactionRemove) (reaction_back reaction h)
body_back (dispatch.TypingStart typing) h = ap (reads_as dispatch.TypingStart) (typing_start_back typing h)
