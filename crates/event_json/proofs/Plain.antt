-- What is written for a dispatch reads back: whole numbers, keys in order, little nesting.
use Rattle.std.proofs.Common.{ℕ, List, [], ◌∷◌, Bool, true, false, Option, Some, None, refl, arith}
use Rattle.serde_json.specs.Data.{Data}
use Rattle.serde_json.proofs.OnLiterals.{serde_json_on_literals}
use Rattle.guild_model.specs.declared.user.User.{User}
use Rattle.dispatch_types.specs.declared.members.MemberObject.{MemberObject}
use Rattle.dispatch_types.specs.declared.threads.ThreadMemberObject.{ThreadMemberObject}
use Rattle.dispatch_types.specs.declared.threads.ThreadObject.{ThreadObject}
use Rattle.dispatch_types.specs.declared.presences.PresenceObject.{PresenceObject}
use Rattle.dispatch_types.specs.declared.messages.Reaction.{Reaction}
use Rattle.dispatch_types.specs.declared.guilds.GuildCreate.{GuildCreate}
use Rattle.dispatch_types.specs.declared.guilds.GuildUpdate.{GuildUpdate}
use Rattle.dispatch_types.specs.declared.guilds.GuildDelete.{GuildDelete}
use Rattle.dispatch_types.specs.declared.roles.GuildRole.{GuildRole}
use Rattle.dispatch_types.specs.declared.roles.GuildRoleDelete.{GuildRoleDelete}
use Rattle.dispatch_types.specs.declared.threads.ThreadCreate.{ThreadCreate}
use Rattle.dispatch_types.specs.declared.threads.ThreadDelete.{ThreadDelete}
use Rattle.dispatch_types.specs.declared.threads.ThreadListSync.{ThreadListSync}
use Rattle.dispatch_types.specs.declared.threads.ThreadMembersUpdate.{ThreadMembersUpdate}
use Rattle.dispatch_types.specs.declared.members.GuildMember.{GuildMember}
use Rattle.dispatch_types.specs.declared.members.GuildMemberRemove.{GuildMemberRemove}
use Rattle.dispatch_types.specs.declared.members.MembersChunk.{MembersChunk}
use Rattle.dispatch_types.specs.declared.presences.VoiceStateUpdate.{VoiceStateUpdate}
use Rattle.dispatch_types.specs.declared.messages.MessageDelete.{MessageDelete}
use Rattle.dispatch_types.specs.declared.messages.TypingStart.{TypingStart}
use Rattle.dispatch_types.specs.declared.ready.Ready.{Ready}
use Rattle.dispatch_types.specs.declared.dispatch.Dispatch.{Dispatch}
use Rattle.dispatch_types.specs.declared.dispatch.Dispatch.TheVariants as dispatch
use Rattle.object_json.specs.Kinds.{list}
use Rattle.object_json.specs.Fits.{Each, IsId}
use Rattle.object_json.specs.Role.{role_data, RoleFits}
use Rattle.object_json.specs.Channel.{channel_data, ChannelFits}
use Rattle.object_json.specs.Member.{member_data, MemberFits}
use Rattle.object_json.specs.Thread.{thread_member_data, ThreadMemberFits, thread_data, ThreadFits, joined_thread_data, JoinedThreadFits}
use Rattle.object_json.specs.Voice.{voice_data, VoiceFits}
use Rattle.object_json.specs.Presence.{presence_data, PresenceFits}
use Rattle.object_json.specs.Message.{message_data}
use Rattle.event_json.specs.Ready.{ready_data, ReadyFits, unavailable_data}
use Rattle.event_json.specs.Guild.{guild_create_data, GuildCreateFits, guild_update_data, guild_delete_data, guild_role_data, GuildRoleFits, guild_role_delete_data}
use Rattle.event_json.specs.Thread.{thread_create_data, ThreadCreateFits, thread_delete_data, thread_list_sync_data, ThreadListSyncFits, thread_members_update_data, ThreadMembersUpdateFits}
use Rattle.event_json.specs.Member.{guild_member_data, GuildMemberFits, guild_member_remove_data, GuildMemberRemoveFits, members_chunk_data, ChunkFits}
use Rattle.event_json.specs.Voice.{voice_state_update_data, VoiceStateUpdateFits}
use Rattle.event_json.specs.Message.{message_delete_data, reaction_data, typing_start_data, TypingStartFits}
use Rattle.event_json.specs.Body.{body_data, DispatchFits}
use Rattle.object_json.proofs.Plain.{IsFlat, list_plain, ids_plain, user_plain, role_plain, channel_plain, member_plain, thread_member_plain, thread_plain, joined_thread_plain, voice_plain, presence_plain, message_plain, thread_number}

unavailable_plain : (id : ℕ) → IsId id → IsFlat 1 (unavailable_data id)
unfolding serde_json_on_literals
unavailable_plain id h = ((refl, (tt, (tt, tt))), omega arith)

guilds_plain : (ids : List ℕ) → Each IsId ids → IsFlat 2 (list unavailable_data ids)
guilds_plain ids h = list_plain 1 unavailable_data IsId unavailable_plain ids h

parted_ready_plain : (user : User) (guilds : List ℕ) (session url : List ℕ) (shard : Option (ℕ × ℕ)) →
    let r : Ready = record { user = user; guilds = guilds; session = session; url = url; shard = shard } in
    ReadyFits r → IsFlat 10 (ready_data r)
unfolding serde_json_on_literals
parted_ready_plain user guilds session url None h =
    let u = user_plain user h.0 in
    let gs = guilds_plain guilds h.1 in
    ((refl, ((refl, (omega arith, (tt, tt))), (gs.0, (tt, (tt, (u.0, (omega arith, tt))))))), omega (arith, u.1, gs.1))
parted_ready_plain user guilds session url (Some shard) h =
    let u = user_plain user h.0 in
    let gs = guilds_plain guilds h.1 in
    ((refl, ((refl, (omega arith, (tt, tt))), (gs.0, (tt, (tt, ((h.2.0, (h.2.1, tt)), (u.0, (omega arith, tt)))))))), omega (arith, u.1, gs.1))

ready_plain : (r : Ready) → ReadyFits r → IsFlat 10 (ready_data r)
ready_plain r h = parted_ready_plain r.user r.guilds r.session r.url r.shard h

members_plain : (members : List MemberObject) → Each MemberFits members → IsFlat 4 (list (member_data None) members)
members_plain members h = list_plain 3 (member_data None) MemberFits (member_plain None) members h

presences_plain : (ps : List PresenceObject) → Each PresenceFits ps → IsFlat 4 (list presence_data ps)
presences_plain ps h = list_plain 3 presence_data PresenceFits presence_plain ps h

thread_members_plain : (members : List ThreadMemberObject) → Each ThreadMemberFits members → IsFlat 2 (list thread_member_data members)
thread_members_plain members h = list_plain 1 thread_member_data ThreadMemberFits thread_member_plain members h

guild_create_plain : (g : GuildCreate) → GuildCreateFits g → IsFlat 10 (guild_create_data g)
unfolding serde_json_on_literals
guild_create_plain g h =
    let channels = list_plain 3 channel_data ChannelFits channel_plain g.channels h.0 in
    let members = members_plain g.members h.3 in
    let presences = presences_plain g.presences h.4.1 in
    let roles = list_plain 3 role_data RoleFits role_plain g.roles h.4.2 in
    let threads = list_plain 3 joined_thread_data JoinedThreadFits joined_thread_plain g.threads h.4.3 in
    let voices = list_plain 3 (voice_data None) VoiceFits (voice_plain None) g.voices h.4.4 in (
      (refl, (channels.0, (tt, (tt, (omega (arith, h.2), (members.0, (tt, (tt, (presences.0, (roles.0, (threads.0, (voices.0, tt)))))))))))),
      omega (arith, channels.1, members.1, presences.1, roles.1, threads.1, voices.1),
    )

deeper : (d : Data) → IsFlat 3 d → IsFlat 10 d
deeper d h = (h.0, omega (arith, h.1))

guild_update_plain : (u : GuildUpdate) → IsFlat 10 (guild_update_data u)
unfolding serde_json_on_literals
guild_update_plain u = ((refl, (tt, (tt, (tt, tt)))), omega arith)

parted_delete_plain : (id : ℕ) (unavailable : Bool) →
    let d : GuildDelete = record { id = id; unavailable = unavailable } in
    IsFlat 10 (guild_delete_data d)
unfolding serde_json_on_literals
parted_delete_plain id true = ((refl, (tt, (tt, tt))), omega arith)
parted_delete_plain id false = ((refl, (tt, tt)), omega arith)

guild_delete_plain : (d : GuildDelete) → IsFlat 10 (guild_delete_data d)
guild_delete_plain d = parted_delete_plain d.id d.unavailable

guild_role_plain : (r : GuildRole) → GuildRoleFits r → IsFlat 10 (guild_role_data r)
unfolding serde_json_on_literals
guild_role_plain r h = let role = role_plain r.role h.1 in ((refl, (tt, (role.0, tt))), omega (arith, role.1))

guild_role_delete_plain : (d : GuildRoleDelete) → IsFlat 10 (guild_role_delete_data d)
unfolding serde_json_on_literals
guild_role_delete_plain d = ((refl, (tt, (tt, tt))), omega arith)

parted_create_plain : (thread : ThreadObject) (newly : Bool) (mine : Option ThreadMemberObject) →
    let c : ThreadCreate = record { thread = thread; newly_created = newly; member = mine } in
    ThreadCreateFits c → IsFlat 3 (thread_create_data c)
parted_create_plain thread newly None h = thread_plain None newly thread h.1 tt
parted_create_plain thread newly (Some mine) h = thread_plain (Some (thread_member_data mine)) newly thread h.1 (thread_member_plain mine h.0)

thread_create_plain : (c : ThreadCreate) → ThreadCreateFits c → IsFlat 10 (thread_create_data c)
thread_create_plain c h = deeper (thread_create_data c) (parted_create_plain c.thread c.newly_created c.member h)

thread_delete_plain : (d : ThreadDelete) → IsFlat 10 (thread_delete_data d)
unfolding serde_json_on_literals
thread_delete_plain d = ((refl, (tt, (tt, (tt, (thread_number d.kind, tt))))), omega arith)

thread_list_sync_plain : (s : ThreadListSync) → ThreadListSyncFits s → IsFlat 10 (thread_list_sync_data s)
unfolding serde_json_on_literals
thread_list_sync_plain s h =
    let ids = ids_plain s.channels h.0 in
    let ms = thread_members_plain s.members h.2 in
    let ts = list_plain 3 (thread_data None false) ThreadFits (λ t f. thread_plain None false t f tt) s.threads h.3 in
    ((refl, (ids.0, (tt, (ms.0, (ts.0, tt))))), omega (arith, ids.1, ms.1, ts.1))

parted_update_plain : (guild id users : ℕ) (added : List ThreadMemberObject) (removed : List ℕ) →
    let u : ThreadMembersUpdate = record { guild = guild; id = id; count = users; added = added; removed = removed } in
    ThreadMembersUpdateFits u → IsFlat 10 (thread_members_update_data u)
unfolding serde_json_on_literals
parted_update_plain guild id users [] [] h =
    ((refl, (tt, (tt, (omega (arith, h.3), tt)))), omega (arith))
parted_update_plain guild id users [] (x ∷ removed) h =
    let ids = ids_plain (x ∷ removed) h.4 in
    ((refl, (tt, (tt, (omega (arith, h.3), (ids.0, tt))))), omega (arith, ids.1))
parted_update_plain guild id users (m ∷ added) [] h =
    let ms = thread_members_plain (m ∷ added) h.0 in
    ((refl, (ms.0, (tt, (tt, (omega (arith, h.3), tt))))), omega (arith, ms.1))
parted_update_plain guild id users (m ∷ added) (x ∷ removed) h =
    let ms = thread_members_plain (m ∷ added) h.0 in
    let ids = ids_plain (x ∷ removed) h.4 in
    ((refl, (ms.0, (tt, (tt, (omega (arith, h.3), (ids.0, tt)))))), omega (arith, ms.1, ids.1))

thread_members_update_plain : (u : ThreadMembersUpdate) → ThreadMembersUpdateFits u → IsFlat 10 (thread_members_update_data u)
thread_members_update_plain u h = parted_update_plain u.guild u.id u.count u.added u.removed h

parted_chunk_plain : (guild : ℕ) (members : List MemberObject) (index chunks : ℕ) (nonce : Option (List ℕ)) (others : List ℕ) (presences : Option (List PresenceObject)) →
    let c : MembersChunk = record { guild = guild; members = members; index = index; count = chunks; nonce = nonce; not_found = others; presences = presences } in
    ChunkFits c → IsFlat 10 (members_chunk_data c)
unfolding serde_json_on_literals
parted_chunk_plain guild members index chunks None [] None h =
    let ms = members_plain members h.3 in
    ((refl, (omega (arith, h.0), (omega (arith, h.1), (tt, (ms.0, tt))))), omega (arith, ms.1))
parted_chunk_plain guild members index chunks None [] (Some ps) h =
    let ms = members_plain members h.3 in
    let pr = presences_plain ps h.5 in
    ((refl, (omega (arith, h.0), (omega (arith, h.1), (tt, (ms.0, (pr.0, tt)))))), omega (arith, ms.1, pr.1))
parted_chunk_plain guild members index chunks None (x ∷ others) None h =
    let ms = members_plain members h.3 in
    let ids = ids_plain (x ∷ others) h.4 in
    ((refl, (omega (arith, h.0), (omega (arith, h.1), (tt, (ms.0, (ids.0, tt)))))), omega (arith, ms.1, ids.1))
parted_chunk_plain guild members index chunks None (x ∷ others) (Some ps) h =
    let ms = members_plain members h.3 in
    let ids = ids_plain (x ∷ others) h.4 in
    let pr = presences_plain ps h.5 in
    ((refl, (omega (arith, h.0), (omega (arith, h.1), (tt, (ms.0, (ids.0, (pr.0, tt))))))), omega (arith, ms.1, ids.1, pr.1))
parted_chunk_plain guild members index chunks (Some nonce) [] None h =
    let ms = members_plain members h.3 in
    ((refl, (omega (arith, h.0), (omega (arith, h.1), (tt, (ms.0, (tt, tt)))))), omega (arith, ms.1))
parted_chunk_plain guild members index chunks (Some nonce) [] (Some ps) h =
    let ms = members_plain members h.3 in
    let pr = presences_plain ps h.5 in
    ((refl, (omega (arith, h.0), (omega (arith, h.1), (tt, (ms.0, (tt, (pr.0, tt))))))), omega (arith, ms.1, pr.1))
parted_chunk_plain guild members index chunks (Some nonce) (x ∷ others) None h =
    let ms = members_plain members h.3 in
    let ids = ids_plain (x ∷ others) h.4 in
    ((refl, (omega (arith, h.0), (omega (arith, h.1), (tt, (ms.0, (tt, (ids.0, tt))))))), omega (arith, ms.1, ids.1))
parted_chunk_plain guild members index chunks (Some nonce) (x ∷ others) (Some ps) h =
    let ms = members_plain members h.3 in
    let ids = ids_plain (x ∷ others) h.4 in
    let pr = presences_plain ps h.5 in
    ((refl, (omega (arith, h.0), (omega (arith, h.1), (tt, (ms.0, (tt, (ids.0, (pr.0, tt)))))))), omega (arith, ms.1, ids.1, pr.1))

chunk_plain : (c : MembersChunk) → ChunkFits c → IsFlat 10 (members_chunk_data c)
chunk_plain c h = parted_chunk_plain c.guild c.members c.index c.count c.nonce c.not_found c.presences h

guild_member_plain : (m : GuildMember) → GuildMemberFits m → IsFlat 10 (guild_member_data m)
guild_member_plain m h = deeper (guild_member_data m) (member_plain (Some m.guild) m.member h.1)

guild_member_remove_plain : (r : GuildMemberRemove) → GuildMemberRemoveFits r → IsFlat 10 (guild_member_remove_data r)
unfolding serde_json_on_literals
guild_member_remove_plain r h = let u = user_plain r.user h.1 in ((refl, (tt, (u.0, tt))), omega (arith, u.1))

voice_state_update_plain : (u : VoiceStateUpdate) → VoiceStateUpdateFits u → IsFlat 10 (voice_state_update_data u)
voice_state_update_plain u h = deeper (voice_state_update_data u) (voice_plain (Some u.guild) u.voice h.1)

message_delete_plain : (d : MessageDelete) → IsFlat 10 (message_delete_data d)
unfolding serde_json_on_literals
message_delete_plain d = ((refl, (tt, (tt, (tt, tt)))), omega arith)

reaction_plain : (r : Reaction) → IsFlat 10 (reaction_data r)
unfolding serde_json_on_literals
reaction_plain r = ((refl, (tt, ((refl, (tt, (tt, tt))), (tt, (tt, (tt, tt)))))), omega arith)

typing_start_plain : (t : TypingStart) → TypingStartFits t → IsFlat 10 (typing_start_data t)
unfolding serde_json_on_literals
typing_start_plain t h = ((refl, (tt, (tt, (h.2, (tt, tt))))), omega arith)

pub body_plain : (d : Dispatch) → DispatchFits d → IsFlat 10 (body_data d)
body_plain (dispatch.Ready ready) h = ready_plain ready h
body_plain dispatch.Resumed h = ((refl, tt), omega arith)
body_plain (dispatch.GuildCreate create) h = guild_create_plain create h
body_plain (dispatch.GuildUpdate update) h = guild_update_plain update
body_plain (dispatch.GuildDelete delete) h = guild_delete_plain delete
body_plain (dispatch.GuildRoleCreate role) h = guild_role_plain role h
body_plain (dispatch.GuildRoleUpdate role) h = guild_role_plain role h
body_plain (dispatch.GuildRoleDelete delete) h = guild_role_delete_plain delete
body_plain (dispatch.ChannelCreate channel) h = deeper (channel_data channel) (channel_plain channel h)
body_plain (dispatch.ChannelUpdate channel) h = deeper (channel_data channel) (channel_plain channel h)
body_plain (dispatch.ChannelDelete channel) h = deeper (channel_data channel) (channel_plain channel h)
body_plain (dispatch.ThreadCreate create) h = thread_create_plain create h
body_plain (dispatch.ThreadUpdate thread) h = deeper (thread_data None false thread) (thread_plain None false thread h tt)
body_plain (dispatch.ThreadDelete delete) h = thread_delete_plain delete
body_plain (dispatch.ThreadListSync sync) h = thread_list_sync_plain sync h
body_plain (dispatch.ThreadMembersUpdate update) h = thread_members_update_plain update h
body_plain (dispatch.GuildMemberAdd member) h = guild_member_plain member h
body_plain (dispatch.GuildMemberUpdate member) h = guild_member_plain member h
body_plain (dispatch.GuildMemberRemove remove) h = guild_member_remove_plain remove h
body_plain (dispatch.GuildMembersChunk chunk) h = chunk_plain chunk h
body_plain (dispatch.VoiceStateUpdate update) h = voice_state_update_plain update h
body_plain (dispatch.PresenceUpdate presence) h = deeper (presence_data presence) (presence_plain presence h)
body_plain (dispatch.MessageCreate message) h = deeper (message_data message) (message_plain message h)
body_plain (dispatch.MessageUpdate message) h = deeper (message_data message) (message_plain message h)
body_plain (dispatch.MessageDelete delete) h = message_delete_plain delete
body_plain (dispatch.MessageReactionAdd reaction) h = reaction_plain reaction
body_plain (dispatch.MessageReactionRemove reaction) h = reaction_plain reaction
body_plain (dispatch.TypingStart typing) h = typing_start_plain typing h
