-- What is written for an object reads back: whole numbers, keys in order, little nesting.
use Rattle.std.proofs.Common.{ℕ, zero, suc, ◌≤◌, ◌+◌, IfSome, List, [], ◌∷◌, map, Bool, true, false, Option, Some, None, refl, arith, replicate}
use Rattle.serde_json.specs.Data.{Data, object, no_members}
use Rattle.serde_json.specs.View.{items_of}
use Rattle.serde_json.proofs.OnLiterals.{serde_json_on_literals}
use Rattle.guild_model.specs.declared.user.User.{User}
use Rattle.guild_model.specs.declared.role.Role.{Role}
use Rattle.guild_model.specs.declared.channel.ChannelKind.{ChannelKind}
use Rattle.guild_model.specs.declared.thread.ThreadKind.{ThreadKind}
use Rattle.guild_model.specs.declared.channel.ChannelKind.TheVariants as channel
use Rattle.guild_model.specs.declared.channel.OverwriteKind.{OverwriteKind}
use Rattle.guild_model.specs.declared.channel.OverwriteKind.TheVariants as overwrite
use Rattle.guild_model.specs.declared.thread.ThreadKind.TheVariants as thread
use Rattle.dispatch_types.specs.declared.channels.OverwriteObject.{OverwriteObject}
use Rattle.dispatch_types.specs.declared.channels.ChannelObject.{ChannelObject}
use Rattle.dispatch_types.specs.declared.members.MemberObject.{MemberObject}
use Rattle.dispatch_types.specs.declared.threads.ThreadMemberObject.{ThreadMemberObject}
use Rattle.dispatch_types.specs.declared.threads.ThreadObject.{ThreadObject}
use Rattle.dispatch_types.specs.declared.threads.JoinedThread.{JoinedThread}
use Rattle.dispatch_types.specs.declared.presences.VoiceObject.{VoiceObject}
use Rattle.dispatch_types.specs.declared.presences.PresenceObject.{PresenceObject}
use Rattle.dispatch_types.specs.declared.messages.MessageObject.{MessageObject}
use Rattle.guild_model.specs.Numbers.{overwrite_kind_number, channel_kind_number, thread_kind_number}
use Rattle.object_json.specs.Kinds.{digits, count, list, blanks}
use Rattle.object_json.specs.Fits.{Each, IsId}
use Rattle.object_json.specs.User.{user_data, UserFits}
use Rattle.object_json.specs.Role.{role_data, RoleFits}
use Rattle.object_json.specs.Channel.{overwrite_data, OverwriteFits, channel_data, ChannelFits}
use Rattle.object_json.specs.Member.{member_data, MemberFits}
use Rattle.object_json.specs.Thread.{thread_member_data, ThreadMemberFits, thread_data, ThreadFits, joined_data, joined_thread_data, JoinedThreadFits, metadata_data}
use Rattle.object_json.specs.Voice.{voice_data, VoiceFits}
use Rattle.object_json.specs.Presence.{presence_data, PresenceFits}
use Rattle.object_json.specs.Message.{message_data, MessageFits}
use Rattle.serde_json.specs.Data.{depth, items_depth}
use Rattle.written_json.specs.Writable.{IsPlain, ItemsArePlain}

-- plain data that nest no deeper than so much
abbrev pub IsFlat : ℕ → Data → Type 0
IsFlat limit d = IsPlain d × (depth d ≤ limit)

pub items_plain : {A : Type 0} (limit : ℕ) (data_of : A → Data) (Fits : A → Type 0) → ((a : A) → Fits a → IsFlat limit (data_of a)) → (items : List A) → Each Fits items → ItemsArePlain (items_of (map data_of items)) × (items_depth (items_of (map data_of items)) ≤ limit)
items_plain limit data_of Fits flat [] h = (tt, omega arith)
items_plain limit data_of Fits flat (a ∷ items) h =
    let first = flat a h.0 in
    let others = items_plain limit data_of Fits flat items h.1 in
    ((first.0, others.0), omega (arith, first.1, others.1))

pub list_plain : {A : Type 0} (limit : ℕ) (data_of : A → Data) (Fits : A → Type 0) → ((a : A) → Fits a → IsFlat limit (data_of a)) → (items : List A) → Each Fits items → IsFlat (limit + 1) (list data_of items)
list_plain limit data_of Fits flat items h =
    let plain = items_plain limit data_of Fits flat items h in
    (plain.0, omega (arith, plain.1))

pub ids_plain : (ids : List ℕ) → Each IsId ids → IsFlat 1 (list digits ids)
ids_plain ids h = list_plain 0 digits IsId (λ id f. (tt, omega arith)) ids h

blank_items : (n : ℕ) → ItemsArePlain (items_of (replicate n (object no_members))) × (items_depth (items_of (replicate n (object no_members))) ≤ 1)
blank_items zero = (tt, omega arith)
blank_items (suc n) = let others = blank_items n in (((refl, tt), others.0), omega (arith, others.1))

pub blanks_plain : (n : ℕ) → IsFlat 2 (blanks n)
blanks_plain n = let plain = blank_items n in (plain.0, omega (arith, plain.1))

pub user_plain : (u : User) → UserFits u → IsFlat 1 (user_data u)
unfolding serde_json_on_literals
user_plain u h = ((refl, (tt, (tt, (tt, tt)))), omega arith)

pub users_plain : (users : List User) → Each UserFits users → IsFlat 2 (list user_data users)
users_plain users h = list_plain 1 user_data UserFits user_plain users h

pub role_plain : (r : Role) → RoleFits r → IsFlat 3 (role_data r)
unfolding serde_json_on_literals
role_plain r h = ((refl, (tt, (tt, (tt, (omega (arith, h.2), tt))))), omega arith)

overwrite_number : (kind : OverwriteKind) → IsPlain (count (overwrite_kind_number kind))
overwrite_number overwrite.Role = omega arith
overwrite_number overwrite.Member = omega arith

channel_number : (kind : ChannelKind) → IsPlain (count (channel_kind_number kind))
channel_number channel.Text = omega arith
channel_number channel.Voice = omega arith
channel_number channel.Category = omega arith
channel_number channel.Announcement = omega arith
channel_number channel.Stage = omega arith
channel_number channel.Forum = omega arith

pub thread_number : (kind : ThreadKind) → IsPlain (count (thread_kind_number kind))
thread_number thread.Announcement = omega arith
thread_number thread.Public = omega arith
thread_number thread.Private = omega arith

pub overwrite_plain : (o : OverwriteObject) → OverwriteFits o → IsFlat 1 (overwrite_data o)
unfolding serde_json_on_literals
overwrite_plain o h = ((refl, (tt, (tt, (tt, (overwrite_number o.kind, tt))))), omega arith)

parted_channel_plain : (guild id : ℕ) (kind : ChannelKind) (name : List ℕ) (parent : Option ℕ) (position : ℕ) (overwrites : List OverwriteObject) →
    let c : ChannelObject = record { guild = guild; id = id; kind = kind; name = name; parent = parent; position = position; overwrites = overwrites } in
    ChannelFits c → IsFlat 3 (channel_data c)
unfolding serde_json_on_literals
parted_channel_plain guild id kind name None position overwrites h =
    let ows = list_plain 1 overwrite_data OverwriteFits overwrite_plain overwrites h.3 in
    ((refl, (tt, (tt, (tt, (tt, (ows.0, (omega (arith, h.4), (channel_number kind, tt)))))))), omega (arith, ows.1))
parted_channel_plain guild id kind name (Some parent) position overwrites h =
    let ows = list_plain 1 overwrite_data OverwriteFits overwrite_plain overwrites h.3 in
    ((refl, (tt, (tt, (tt, (tt, (ows.0, (omega (arith, h.4), (channel_number kind, tt)))))))), omega (arith, ows.1))

pub channel_plain : (c : ChannelObject) → ChannelFits c → IsFlat 3 (channel_data c)
channel_plain c h = parted_channel_plain c.guild c.id c.kind c.name c.parent c.position c.overwrites h

parted_member_plain : (guild : Option ℕ) (user : User) (nick : Option (List ℕ)) (roles : List ℕ) (joined : ℕ) (timeout : Option ℕ) →
    let m : MemberObject = record { user = user; nick = nick; roles = roles; joined = joined; timeout = timeout } in
    MemberFits m → IsFlat 3 (member_data guild m)
unfolding serde_json_on_literals
parted_member_plain None user None roles joined None h =
    let ids = ids_plain roles h.2 in
    let u = user_plain user h.3 in
    ((refl, (tt, (tt, (tt, (ids.0, (u.0, tt)))))), omega (arith, ids.1, u.1))
parted_member_plain None user None roles joined (Some timeout) h =
    let ids = ids_plain roles h.2 in
    let u = user_plain user h.3 in
    ((refl, (tt, (tt, (tt, (ids.0, (u.0, tt)))))), omega (arith, ids.1, u.1))
parted_member_plain None user (Some nick) roles joined None h =
    let ids = ids_plain roles h.2 in
    let u = user_plain user h.3 in
    ((refl, (tt, (tt, (tt, (ids.0, (u.0, tt)))))), omega (arith, ids.1, u.1))
parted_member_plain None user (Some nick) roles joined (Some timeout) h =
    let ids = ids_plain roles h.2 in
    let u = user_plain user h.3 in
    ((refl, (tt, (tt, (tt, (ids.0, (u.0, tt)))))), omega (arith, ids.1, u.1))
parted_member_plain (Some guild) user None roles joined None h =
    let ids = ids_plain roles h.2 in
    let u = user_plain user h.3 in
    ((refl, (tt, (tt, (tt, (tt, (ids.0, (u.0, tt))))))), omega (arith, ids.1, u.1))
parted_member_plain (Some guild) user None roles joined (Some timeout) h =
    let ids = ids_plain roles h.2 in
    let u = user_plain user h.3 in
    ((refl, (tt, (tt, (tt, (tt, (ids.0, (u.0, tt))))))), omega (arith, ids.1, u.1))
parted_member_plain (Some guild) user (Some nick) roles joined None h =
    let ids = ids_plain roles h.2 in
    let u = user_plain user h.3 in
    ((refl, (tt, (tt, (tt, (tt, (ids.0, (u.0, tt))))))), omega (arith, ids.1, u.1))
parted_member_plain (Some guild) user (Some nick) roles joined (Some timeout) h =
    let ids = ids_plain roles h.2 in
    let u = user_plain user h.3 in
    ((refl, (tt, (tt, (tt, (tt, (ids.0, (u.0, tt))))))), omega (arith, ids.1, u.1))

pub member_plain : (guild : Option ℕ) (m : MemberObject) → MemberFits m → IsFlat 3 (member_data guild m)
member_plain guild m h = parted_member_plain guild m.user m.nick m.roles m.joined m.timeout h

pub thread_member_plain : (m : ThreadMemberObject) → ThreadMemberFits m → IsFlat 1 (thread_member_data m)
unfolding serde_json_on_literals
thread_member_plain m h = ((refl, (omega arith, (tt, (tt, (tt, tt))))), omega arith)

pub joined_plain : (joined : ℕ) → IsFlat 1 (joined_data joined)
unfolding serde_json_on_literals
joined_plain joined = ((refl, (omega arith, (tt, tt))), omega arith)

metadata_plain : (archived : Bool) → IsFlat 1 (metadata_data archived)
unfolding serde_json_on_literals
metadata_plain archived = ((refl, (tt, (tt, tt))), omega arith)

pub thread_plain : (mine : Option Data) (newly : Bool) (t : ThreadObject) → ThreadFits t → IfSome mine (IsFlat 1) → IsFlat 3 (thread_data mine newly t)
unfolding serde_json_on_literals
thread_plain None true t h k =
    let metadata = metadata_plain t.archived in
    ((refl, (tt, (tt, (omega (arith, h.2.0), (tt, (tt, (tt, (tt, (metadata.0, (thread_number t.kind, tt)))))))))), omega (arith, metadata.1))
thread_plain None false t h k =
    let metadata = metadata_plain t.archived in
    ((refl, (tt, (tt, (omega (arith, h.2.0), (tt, (tt, (tt, (metadata.0, (thread_number t.kind, tt))))))))), omega (arith, metadata.1))
thread_plain (Some d) true t h k =
    let metadata = metadata_plain t.archived in
    ((refl, (tt, (tt, (k.0, (omega (arith, h.2.0), (tt, (tt, (tt, (tt, (metadata.0, (thread_number t.kind, tt))))))))))), omega (arith, metadata.1, k.1))
thread_plain (Some d) false t h k =
    let metadata = metadata_plain t.archived in
    ((refl, (tt, (tt, (k.0, (omega (arith, h.2.0), (tt, (tt, (tt, (metadata.0, (thread_number t.kind, tt)))))))))), omega (arith, metadata.1, k.1))

parted_joined_plain : (t : ThreadObject) (joined : Option ℕ) →
    let j : JoinedThread = record { thread = t; joined = joined } in
    JoinedThreadFits j → IsFlat 3 (joined_thread_data j)
parted_joined_plain t None h = thread_plain None false t h.0 tt
parted_joined_plain t (Some joined) h = thread_plain (Some (joined_data joined)) false t h.0 (joined_plain joined)

pub joined_thread_plain : (t : JoinedThread) → JoinedThreadFits t → IsFlat 3 (joined_thread_data t)
joined_thread_plain t h = parted_joined_plain t.thread t.joined h

parted_voice_plain : (guild : Option ℕ) (user : ℕ) (channel : Option ℕ) (mute deaf : Bool) →
    let v : VoiceObject = record { user = user; channel = channel; self_mute = mute; self_deaf = deaf } in
    IsFlat 3 (voice_data guild v)
unfolding serde_json_on_literals
parted_voice_plain None user None mute deaf = ((refl, (tt, (tt, (tt, (tt, tt))))), omega arith)
parted_voice_plain None user (Some channel) mute deaf = ((refl, (tt, (tt, (tt, (tt, tt))))), omega arith)
parted_voice_plain (Some guild) user None mute deaf = ((refl, (tt, (tt, (tt, (tt, (tt, tt)))))), omega arith)
parted_voice_plain (Some guild) user (Some channel) mute deaf = ((refl, (tt, (tt, (tt, (tt, (tt, tt)))))), omega arith)

pub voice_plain : (guild : Option ℕ) (v : VoiceObject) → VoiceFits v → IsFlat 3 (voice_data guild v)
voice_plain guild v h = parted_voice_plain guild v.user v.channel v.self_mute v.self_deaf

pub presence_plain : (p : PresenceObject) → PresenceFits p → IsFlat 3 (presence_data p)
unfolding serde_json_on_literals
presence_plain p h = ((refl, (tt, (tt, (tt, ((refl, (tt, tt)), tt))))), omega arith)

pub message_plain : (m : MessageObject) → MessageFits m → IsFlat 3 (message_data m)
unfolding serde_json_on_literals
message_plain m h =
    let attachments = blanks_plain m.attachments in
    let components = blanks_plain m.components in
    let embeds = blanks_plain m.embeds in
    let author = user_plain m.author h.1 in
    let mentions = users_plain m.mentions h.4.3 in (
      (refl, (attachments.0, (author.0, (tt, (components.0, (tt, (embeds.0, (tt, (tt, (mentions.0, (tt, (omega arith, tt)))))))))))),
      omega (arith, attachments.1, components.1, embeds.1, author.1, mentions.1),
    )
