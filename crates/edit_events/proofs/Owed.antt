-- What an edit of no messages owes is neither of messages nor brings a guild or members.
use Rattle.std.proofs.Common.{◌≡◌, ℕ, Bool, true, false, List, [], ◌∷◌, ◌++◌, refl}
use Rattle.std.specs.Prelude.{◌==◌, All}
use Rattle.std.proofs.lemmas.List.Elements.{All-nil, All-append}
use Rattle.collections.specs.ById.{find_id}
use Rattle.guild_model.specs.declared.member.Member.{Member}
use Rattle.guild_model.specs.Record.{Record, member_id, channel_id}
use Rattle.guild_model.specs.Statuses.{status_shown}
use Rattle.dispatch_types.specs.declared.viewer.Viewer.{Viewer}
use Rattle.dispatch_types.specs.declared.dispatch.Dispatch.{Dispatch}
use Rattle.dispatch_types.specs.declared.dispatch.Dispatch.TheVariants as dispatch
use Rattle.thread_sync.specs.Shown.{shown_to}
use Rattle.thread_sync.specs.Sync.{threads_in, listing, listing_if_any, gained_parents}
use Rattle.event_views.specs.Asked.{told_if}
use Rattle.event_views.specs.Synced.{synced}
use Rattle.role_member_edit.specs.declared.RoleMemberEdit.{RoleMemberEdit}
use Rattle.role_member_edit.specs.declared.RoleMemberEdit.TheVariants.{RoleCreate, RoleUpdate, RoleDelete, MemberAdd, MemberRemove, MemberNick, MemberTimeout, MemberRoleAdd, MemberRoleRemove}
use Rattle.role_member_events.specs.Dispatches.{guild_role, added_member, role_member_dispatches}
use Rattle.channel_edit.specs.declared.ChannelEdit.{ChannelEdit}
use Rattle.channel_edit.specs.declared.ChannelEdit.TheVariants.{ChannelCreate, ChannelUpdate, ChannelDelete, OverwriteSet, OverwriteDelete}
use Rattle.channel_events.specs.Dispatches.{channel_dispatches}
use Rattle.voice_presence.specs.declared.VoicePresenceEdit.TheVariants.{VoiceSet, PresenceSet}
use Rattle.voice_presence_events.specs.Dispatches.{presence_told, voice_told}
use Rattle.edit_apply.specs.declared.Edit.{Edit}
use Rattle.edit_apply.specs.declared.Edit.TheVariants as edit
use Rattle.edit_apply.specs.declared.guild.GuildEdit.TheVariants.{GuildOpen, GuildRename, GuildOwner, GuildOutage, GuildBack, GuildPrivate}
use Rattle.whole_events.specs.Dispatches.{whole_dispatches}
use Rattle.channel_privacy.specs.Law.{showing}
use Rattle.channel_privacy.proofs.Asked.{asked-all}
use Rattle.channel_privacy.proofs.Each.{withheld-each}
use Rattle.edit_events.specs.Due.{told_of}
use Rattle.edit_events.proofs.Walk.{is_plain, member_updated-all, removed-all, updated-all, created-all, all_left, deleted-all, threads-all}

-- a dispatch that an edit of no messages may owe to a viewer that is served before and after it
abbrev pub is_owed : Dispatch → Bool
is_owed (dispatch.Ready ready) = false
is_owed dispatch.Resumed = false
is_owed (dispatch.GuildCreate create) = false
is_owed (dispatch.GuildMembersChunk chunk) = false
is_owed (dispatch.MessageCreate message) = false
is_owed (dispatch.MessageUpdate message) = false
is_owed (dispatch.MessageDelete delete) = false
is_owed (dispatch.MessageReactionAdd reaction) = false
is_owed (dispatch.MessageReactionRemove reaction) = false
is_owed (dispatch.TypingStart typing) = false
is_owed d = true

abbrev pub IsOwed : Dispatch → Type 0
IsOwed d = is_owed d ≡ true

-- an edit of no messages
abbrev pub IsOther : Edit → Type 0
IsOther (edit.Message e) = ⊥
IsOther e = Unit {0}

abbrev N : List Dispatch → Type 0
N ds = All IsOwed ds

plain-owed : (d : Dispatch) → is_plain d ≡ true → IsOwed d
plain-owed (dispatch.Ready ready) is = absurd (cc)
plain-owed dispatch.Resumed is = absurd (cc)
plain-owed (dispatch.GuildCreate create) is = absurd (cc)
plain-owed (dispatch.GuildMembersChunk chunk) is = absurd (cc)
plain-owed (dispatch.MessageCreate message) is = absurd (cc)
plain-owed (dispatch.MessageUpdate message) is = absurd (cc)
plain-owed (dispatch.MessageDelete delete) is = absurd (cc)
plain-owed (dispatch.MessageReactionAdd reaction) is = absurd (cc)
plain-owed (dispatch.MessageReactionRemove reaction) is = absurd (cc)
plain-owed (dispatch.TypingStart typing) is = absurd (cc)
plain-owed d is = refl

module _ (s : Record) (me : Member) (t : Record) (me' : Member) (v : Viewer) where
  sync-owed : N (synced s me t me' v)
  sync-owed = by_parents (gained_parents (shown_to s me) (shown_to t me') t)
    where
      by_parents : (ps : List ℕ) → N (told_if v (listing_if_any (shown_to t me') t me'.user.id ps))
      by_parents [] = All-nil IsOwed
      by_parents (p ∷ ps) = asked-all IsOwed v false (listing t.id me'.user.id (p ∷ ps) (threads_in (shown_to t me') (p ∷ ps) t.threads)) refl

  then-sync : (ds : List Dispatch) → N ds → N (ds ++ synced s me t me' v)
  then-sync ds free = All-append IsOwed ds (synced s me t me' v) free sync-owed

  role_member-owed : (e : RoleMemberEdit) → N (role_member_dispatches s me t me' v e)
  role_member-owed (RoleCreate body) = asked-all IsOwed v false (dispatch.GuildRoleCreate (guild_role t.id body)) refl
  role_member-owed (RoleUpdate body) = then-sync _ (asked-all IsOwed v false (dispatch.GuildRoleUpdate (guild_role t.id body)) refl)
  role_member-owed (RoleDelete role) = then-sync _ (asked-all IsOwed v false (dispatch.GuildRoleDelete (record { guild = t.id; role = role })) refl)
  role_member-owed (MemberAdd add) = asked-all IsOwed v (add.user == v.user) (dispatch.GuildMemberAdd (added_member t.id add)) refl
  role_member-owed (MemberRemove user) = removed-all IsOwed plain-owed s t v (λ user z found. refl) me (find_id member_id user s.members)
  role_member-owed (MemberNick nick) = member_updated-all IsOwed plain-owed s t v nick.user
  role_member-owed (MemberTimeout timeout) = member_updated-all IsOwed plain-owed s t v timeout.user
  role_member-owed (MemberRoleAdd held) = then-sync _ (member_updated-all IsOwed plain-owed s t v held.user)
  role_member-owed (MemberRoleRemove held) = then-sync _ (member_updated-all IsOwed plain-owed s t v held.user)

  channel-owed : (e : ChannelEdit) → N (channel_dispatches s me t me' v e)
  channel-owed (ChannelCreate e) = created-all IsOwed plain-owed s t v (find_id channel_id e.channel t.channels) (λ c is. refl)
  channel-owed (ChannelUpdate e) = updated-all IsOwed plain-owed s t v (λ channel c found. refl) e.channel
  channel-owed (ChannelDelete channel) = deleted-all IsOwed plain-owed s t v (all_left IsOwed plain-owed s t v (λ z. refl)) (λ channel c found. refl) (find_id channel_id channel s.channels) (λ c is. refl)
  channel-owed (OverwriteSet e) = then-sync _ (updated-all IsOwed plain-owed s t v (λ channel c found. refl) e.channel)
  channel-owed (OverwriteDelete e) = then-sync _ (updated-all IsOwed plain-owed s t v (λ channel c found. refl) e.channel)

  pub owed : (e : Edit) → IsOther e → N (whole_dispatches s me t me' v e)
  owed (edit.Guild (GuildOpen opening)) other = All-nil IsOwed
  owed (edit.Guild (GuildRename name)) other = asked-all IsOwed v false (dispatch.GuildUpdate (record { id = t.id; name = t.name; owner = t.owner })) refl
  owed (edit.Guild (GuildOwner user)) other = then-sync _ (asked-all IsOwed v false (dispatch.GuildUpdate (record { id = t.id; name = t.name; owner = t.owner })) refl)
  owed (edit.Guild GuildOutage) other = All-nil IsOwed
  owed (edit.Guild GuildBack) other = All-nil IsOwed
  owed (edit.Guild (GuildPrivate private)) other = All-nil IsOwed
  owed (edit.RoleMember e) other = role_member-owed e
  owed (edit.Channel e) other = channel-owed e
  owed (edit.Thread e) other = threads-all IsOwed plain-owed s t v (λ c. refl) (λ there. refl) me me' e
  owed (edit.VoicePresence (VoiceSet e)) other = asked-all IsOwed v false (dispatch.VoiceStateUpdate (record { guild = t.id; voice = voice_told e })) refl
  owed (edit.VoicePresence (PresenceSet e)) other = asked-all IsOwed v false (dispatch.PresenceUpdate (presence_told t.id e.user (status_shown e.status))) refl
  owed (edit.Message e) other = absurd other

-- so is what is told of it
pub told-owed : (s : Record) (me : Member) (t : Record) (me' : Member) (v : Viewer) (b : Bool) (ds : List Dispatch) → N ds → N (told_of s me t me' v b ds)
told-owed s me t me' v true ds all = withheld-each IsOwed (λ u is. refl) (showing s.private s me t.private t me') s t v (λ c. refl) (λ c. refl) (λ z. refl) ds all
told-owed s me t me' v false ds all = all
