-- What is written for an object is read as that object.
use Rattle.std.proofs.Common.{◌≡◌, ℕ, zero, suc, ap, ◌<◌, ◌^◌, List, [], ◌∷◌, map, Bool, true, false, Option, Some, None, Result, Ok, refl, arith, replicate}
use Rattle.std.specs.Prelude.{nat_lt}
use Rattle.serde_json.specs.Data.{Data, object, no_members}
use Rattle.serde_json.specs.View.{items_of}
use Rattle.serde_json.proofs.OnLiterals.{serde_json_on_literals}
use Rattle.guild_model.specs.declared.user.User.{User}
use Rattle.guild_model.specs.declared.role.Role.{Role}
use Rattle.guild_model.specs.declared.channel.ChannelKind.{ChannelKind}
use Rattle.dispatch_types.specs.declared.channels.OverwriteObject.{OverwriteObject}
use Rattle.dispatch_types.specs.declared.channels.ChannelObject.{ChannelObject}
use Rattle.dispatch_types.specs.declared.members.MemberObject.{MemberObject}
use Rattle.dispatch_types.specs.declared.threads.ThreadMemberObject.{ThreadMemberObject}
use Rattle.dispatch_types.specs.declared.threads.ThreadObject.{ThreadObject}
use Rattle.dispatch_types.specs.declared.threads.JoinedThread.{JoinedThread}
use Rattle.dispatch_types.specs.declared.presences.VoiceObject.{VoiceObject}
use Rattle.dispatch_types.specs.declared.presences.PresenceObject.{PresenceObject}
use Rattle.dispatch_types.specs.declared.messages.MessageObject.{MessageObject}
use Rattle.object_json.specs.Kinds.{digits}
use Rattle.object_json.specs.Fits.{Each, IsId, IsMoment}
use Rattle.object_json.specs.User.{user_data, user_from, UserFits}
use Rattle.object_json.specs.Role.{role_data, role_from, RoleFits}
use Rattle.object_json.specs.Channel.{overwrite_data, overwrite_from, OverwriteFits, channel_data, channel_from, ChannelFits}
use Rattle.object_json.specs.Member.{member_data, member_from, MemberFits}
use Rattle.object_json.specs.Thread.{thread_member_data, thread_member_from, ThreadMemberFits, thread_data, thread_from, ThreadFits, joined_data, joined_from, joined_thread_data, joined_thread_from, JoinedThreadFits}
use Rattle.object_json.specs.Voice.{voice_data, voice_from, VoiceFits}
use Rattle.object_json.specs.Presence.{presence_data, presence_from, PresenceFits}
use Rattle.object_json.specs.Message.{message_data, message_from, MessageFits}
use Rattle.std.proofs.lemmas.Bool.Decides.{nat_tests}
use Rattle.serde_json.specs.Events.{items_len}
use Rattle.snowflake_id.proofs.Texts.{id_of_decimal}
use Rattle.guild_model.proofs.Numbers.{channel_kind_back, thread_kind_back, overwrite_kind_back}
use Rattle.guild_model.proofs.Statuses.{status_back, shown_back}
use Rattle.moment_text.proofs.Named.{moment_back}
use Rattle.object_json.specs.declared.fault.ReadFault.{ReadFault}
use Rattle.object_json.specs.Reading.{id_from, items_from}

pub below : (n limit : ℕ) → n < limit → nat_lt n limit ≡ true
below n limit h = grind (arith, nat_tests)

pub id_back : (id : ℕ) → IsId id → id_from (digits id) ≡ Ok id
id_back id h = rw (id_of_decimal id h) refl

pub items_back : {A : Type 0} (from : Data → Result A ReadFault) (data_of : A → Data) (Fits : A → Type 0) → ((a : A) → Fits a → from (data_of a) ≡ Ok a) → (items : List A) → Each Fits items → items_from from (items_of (map data_of items)) ≡ Ok items
items_back from data_of Fits back [] h = refl
items_back from data_of Fits back (a ∷ items) h = rw (back a h.0, items_back from data_of Fits back items h.1) refl

pub ids_back : (ids : List ℕ) → Each IsId ids → items_from id_from (items_of (map digits ids)) ≡ Ok ids
ids_back ids h = items_back id_from digits IsId id_back ids h

blanks_len : (n : ℕ) → items_len (items_of (replicate n (object no_members))) ≡ n
blanks_len zero = refl
blanks_len (suc n) = ap suc (blanks_len n)

pub user_back : (u : User) → UserFits u → user_from (user_data u) ≡ Ok u
unfolding serde_json_on_literals
user_back u h = rw (id_of_decimal u.id h) refl

pub users_back : (users : List User) → Each UserFits users → items_from user_from (items_of (map user_data users)) ≡ Ok users
users_back users h = items_back user_from user_data UserFits user_back users h

pub role_back : (r : Role) → RoleFits r → role_from (role_data r) ≡ Ok r
unfolding serde_json_on_literals
role_back r h = rw (id_of_decimal r.id h.0, id_of_decimal r.permissions (omega (arith, h.1)), below r.permissions (2 ^ 53) h.1, below r.position (2 ^ 32) h.2) refl

pub overwrite_back : (o : OverwriteObject) → OverwriteFits o → overwrite_from (overwrite_data o) ≡ Ok o
unfolding serde_json_on_literals
overwrite_back o h =
    rw (id_of_decimal o.allow (omega (arith, h.0)), below o.allow (2 ^ 53) h.0, id_of_decimal o.deny (omega (arith, h.1)), below o.deny (2 ^ 53) h.1, id_of_decimal o.id h.2, overwrite_kind_back o.kind) refl

pub overwrites_back : (os : List OverwriteObject) → Each OverwriteFits os → items_from overwrite_from (items_of (map overwrite_data os)) ≡ Ok os
overwrites_back os h = items_back overwrite_from overwrite_data OverwriteFits overwrite_back os h

parted_channel_back : (guild id : ℕ) (kind : ChannelKind) (name : List ℕ) (parent : Option ℕ) (position : ℕ) (overwrites : List OverwriteObject) →
    let c : ChannelObject = record { guild = guild; id = id; kind = kind; name = name; parent = parent; position = position; overwrites = overwrites } in
    ChannelFits c → channel_from (channel_data c) ≡ Ok c
unfolding serde_json_on_literals
parted_channel_back guild id kind name None position overwrites h =
    rw (id_of_decimal guild h.0, id_of_decimal id h.1, overwrites_back overwrites h.3, below position (2 ^ 32) h.4, channel_kind_back kind) refl
parted_channel_back guild id kind name (Some parent) position overwrites h =
    rw (id_of_decimal guild h.0, id_of_decimal id h.1, id_of_decimal parent h.2, overwrites_back overwrites h.3, below position (2 ^ 32) h.4, channel_kind_back kind) refl

pub channel_back : (c : ChannelObject) → ChannelFits c → channel_from (channel_data c) ≡ Ok c
channel_back c h = parted_channel_back c.guild c.id c.kind c.name c.parent c.position c.overwrites h

parted_member_back : (guild : Option ℕ) (user : User) (nick : Option (List ℕ)) (roles : List ℕ) (joined : ℕ) (timeout : Option ℕ) →
    let m : MemberObject = record { user = user; nick = nick; roles = roles; joined = joined; timeout = timeout } in
    MemberFits m → member_from (member_data guild m) ≡ Ok m
unfolding serde_json_on_literals
parted_member_back None user None roles joined None h = rw (moment_back joined h.1, ids_back roles h.2, user_back user h.3) refl
parted_member_back None user None roles joined (Some timeout) h = rw (moment_back timeout h.0, moment_back joined h.1, ids_back roles h.2, user_back user h.3) refl
parted_member_back None user (Some nick) roles joined None h = rw (moment_back joined h.1, ids_back roles h.2, user_back user h.3) refl
parted_member_back None user (Some nick) roles joined (Some timeout) h = rw (moment_back timeout h.0, moment_back joined h.1, ids_back roles h.2, user_back user h.3) refl
parted_member_back (Some guild) user None roles joined None h = rw (moment_back joined h.1, ids_back roles h.2, user_back user h.3) refl
parted_member_back (Some guild) user None roles joined (Some timeout) h = rw (moment_back timeout h.0, moment_back joined h.1, ids_back roles h.2, user_back user h.3) refl
parted_member_back (Some guild) user (Some nick) roles joined None h = rw (moment_back joined h.1, ids_back roles h.2, user_back user h.3) refl
parted_member_back (Some guild) user (Some nick) roles joined (Some timeout) h = rw (moment_back timeout h.0, moment_back joined h.1, ids_back roles h.2, user_back user h.3) refl

-- whether its guild is named or not
pub member_back : (guild : Option ℕ) (m : MemberObject) → MemberFits m → member_from (member_data guild m) ≡ Ok m
member_back guild m h = parted_member_back guild m.user m.nick m.roles m.joined m.timeout h

pub thread_member_back : (m : ThreadMemberObject) → ThreadMemberFits m → thread_member_from (thread_member_data m) ≡ Ok m
unfolding serde_json_on_literals
thread_member_back m h = rw (id_of_decimal m.thread h.0, moment_back m.joined h.1, id_of_decimal m.user h.2) refl

pub joined_back : (joined : ℕ) → IsMoment joined → joined_from (joined_data joined) ≡ Ok joined
unfolding serde_json_on_literals
joined_back joined h = rw (moment_back joined h) refl

-- whatever is said of the bot's membership, and whether it is new or not
pub thread_back : (mine : Option Data) (newly : Bool) (t : ThreadObject) → ThreadFits t → thread_from (thread_data mine newly t) ≡ Ok t
unfolding serde_json_on_literals
thread_back None true t h = rw (id_of_decimal t.guild h.0, id_of_decimal t.id h.1, below t.count 51 (omega (arith, h.2.0)), id_of_decimal t.owner h.2.1, id_of_decimal t.parent h.2.2, thread_kind_back t.kind) refl
thread_back None false t h = rw (id_of_decimal t.guild h.0, id_of_decimal t.id h.1, below t.count 51 (omega (arith, h.2.0)), id_of_decimal t.owner h.2.1, id_of_decimal t.parent h.2.2, thread_kind_back t.kind) refl
thread_back (Some d) true t h = rw (id_of_decimal t.guild h.0, id_of_decimal t.id h.1, below t.count 51 (omega (arith, h.2.0)), id_of_decimal t.owner h.2.1, id_of_decimal t.parent h.2.2, thread_kind_back t.kind) refl
thread_back (Some d) false t h = rw (id_of_decimal t.guild h.0, id_of_decimal t.id h.1, below t.count 51 (omega (arith, h.2.0)), id_of_decimal t.owner h.2.1, id_of_decimal t.parent h.2.2, thread_kind_back t.kind) refl

parted_joined_back : (t : ThreadObject) (joined : Option ℕ) →
    let j : JoinedThread = record { thread = t; joined = joined } in
    JoinedThreadFits j → joined_thread_from (joined_thread_data j) ≡ Ok j
unfolding serde_json_on_literals
parted_joined_back t None h = rw (thread_back None false t h.0) refl
parted_joined_back t (Some joined) h = rw (thread_back (Some (joined_data joined)) false t h.0, moment_back joined h.1) refl

pub joined_thread_back : (t : JoinedThread) → JoinedThreadFits t → joined_thread_from (joined_thread_data t) ≡ Ok t
joined_thread_back t h = parted_joined_back t.thread t.joined h

parted_voice_back : (guild : Option ℕ) (user : ℕ) (channel : Option ℕ) (mute deaf : Bool) →
    let v : VoiceObject = record { user = user; channel = channel; self_mute = mute; self_deaf = deaf } in
    VoiceFits v → voice_from (voice_data guild v) ≡ Ok v
unfolding serde_json_on_literals
parted_voice_back None user None mute deaf h = rw (id_of_decimal user h.1) refl
parted_voice_back None user (Some channel) mute deaf h = rw (id_of_decimal channel h.0, id_of_decimal user h.1) refl
parted_voice_back (Some guild) user None mute deaf h = rw (id_of_decimal user h.1) refl
parted_voice_back (Some guild) user (Some channel) mute deaf h = rw (id_of_decimal channel h.0, id_of_decimal user h.1) refl

pub voice_back : (guild : Option ℕ) (v : VoiceObject) → VoiceFits v → voice_from (voice_data guild v) ≡ Ok v
voice_back guild v h = parted_voice_back guild v.user v.channel v.self_mute v.self_deaf h

pub presence_back : (p : PresenceObject) → PresenceFits p → presence_from (presence_data p) ≡ Ok p
unfolding serde_json_on_literals
presence_back p h = rw (id_of_decimal p.guild h.0, status_back _, shown_back p.status, id_of_decimal p.user h.1) refl

pub message_back : (m : MessageObject) → MessageFits m → message_from (message_data m) ≡ Ok m
unfolding serde_json_on_literals
message_back m h =
    rw (
      blanks_len m.attachments,
      below m.attachments 11 (omega (arith, h.0)),
      user_back m.author h.1,
      id_of_decimal m.channel h.2,
      blanks_len m.components,
      below m.components 11 (omega (arith, h.3)),
      blanks_len m.embeds,
      below m.embeds 11 (omega (arith, h.4.0)),
      id_of_decimal m.guild h.4.1,
      id_of_decimal m.id h.4.2,
      users_back m.mentions h.4.3,
    ) refl
