-- An edit leaves a guild its id, and each dispatch that it owes is of the guild.
use Rattle.std.proofs.Common.{◌≡◌, ℕ, false, Option, Some, None, refl}
use Rattle.std.specs.Prelude.{All}
use Rattle.std.proofs.lemmas.List.Elements.{All-nil}
use Rattle.guild_model.specs.declared.member.Member.{Member}
use Rattle.guild_model.specs.declared.presence.ShownStatus.{ShownStatus}
use Rattle.guild_model.specs.Record.{Record}
use Rattle.guild_model.specs.Statuses.{status_shown}
use Rattle.dispatch_types.specs.declared.viewer.Viewer.{Viewer}
use Rattle.dispatch_types.specs.declared.dispatch.Dispatch.TheVariants.{GuildUpdate}
use Rattle.channel_edit.specs.declared.ChannelEdit.TheVariants.{ChannelCreate, ChannelUpdate, ChannelDelete, OverwriteSet, OverwriteDelete}
use Rattle.thread_edit.specs.declared.ThreadEdit.TheVariants.{ThreadCreate, ThreadRename, ThreadArchive, ThreadUnarchive, ThreadDelete, ThreadJoin, ThreadLeave}
use Rattle.voice_presence.specs.declared.VoicePresenceEdit.TheVariants.{VoiceSet, PresenceSet}
use Rattle.voice_presence.specs.Voices.{with_voice}
use Rattle.voice_presence.specs.declared.voice_set.VoiceSet.{VoiceSet as Setting}
use Rattle.voice_presence.specs.Presences.{with_shown_status}
use Rattle.role_member_edit.specs.declared.RoleMemberEdit.TheVariants.{RoleCreate, RoleUpdate, RoleDelete, MemberAdd, MemberRemove, MemberNick, MemberTimeout, MemberRoleAdd, MemberRoleRemove}
use Rattle.edit_apply.specs.declared.guild.GuildEdit.TheVariants.{GuildOpen, GuildRename, GuildOwner, GuildOutage, GuildBack, GuildPrivate}
use Rattle.edit_apply.specs.declared.Edit.{Edit}
use Rattle.edit_apply.specs.declared.Edit.TheVariants as edit
use Rattle.edit_apply.specs.Edits.{applied}
use Rattle.thread_sync.specs.Shown.{shown_to}
use Rattle.message_events.specs.Notes.{message_note}
use Rattle.event_views.proofs.Steps.{IsOf, asked-of, append-of}
use Rattle.event_views.proofs.Rights.{sync-of}
use Rattle.role_member_events.proofs.Of.{dispatches-of as role_member-of}
use Rattle.channel_events.proofs.Follows.{dispatches-of as channel-of}
use Rattle.thread_events.proofs.Follows.{dispatches-of as thread-of}
use Rattle.voice_presence_events.proofs.Follows.{dispatches-of as voice_presence-of}
use Rattle.message_events.proofs.Of.{dispatches-of as message-of}
use Rattle.message_events.proofs.Follows.{id-kept as message-id}
use Rattle.whole_events.specs.Dispatches.{whole_dispatches}

-- an edit leaves a guild its id
voice-id : (s : Record) (set : Setting) (channel : Option ℕ) → (with_voice s set channel).id ≡ s.id
voice-id s set None = refl
voice-id s set (Some channel) = refl

presence-id : (s : Record) (user : ℕ) (shown : Option ShownStatus) → (with_shown_status s user shown).id ≡ s.id
presence-id s user None = refl
presence-id s user (Some shown) = refl

pub id-kept : (s : Record) (e : Edit) → (applied s e).id ≡ s.id
id-kept s (edit.Guild (GuildOpen opening)) = refl
id-kept s (edit.Guild (GuildRename name)) = refl
id-kept s (edit.Guild (GuildOwner user)) = refl
id-kept s (edit.Guild GuildOutage) = refl
id-kept s (edit.Guild GuildBack) = refl
id-kept s (edit.Guild (GuildPrivate private)) = refl
id-kept s (edit.RoleMember (RoleCreate body)) = refl
id-kept s (edit.RoleMember (RoleUpdate body)) = refl
id-kept s (edit.RoleMember (RoleDelete role)) = refl
id-kept s (edit.RoleMember (MemberAdd add)) = refl
id-kept s (edit.RoleMember (MemberRemove user)) = refl
id-kept s (edit.RoleMember (MemberNick nick)) = refl
id-kept s (edit.RoleMember (MemberTimeout timeout)) = refl
id-kept s (edit.RoleMember (MemberRoleAdd held)) = refl
id-kept s (edit.RoleMember (MemberRoleRemove held)) = refl
id-kept s (edit.Channel (ChannelCreate create)) = refl
id-kept s (edit.Channel (ChannelUpdate update)) = refl
id-kept s (edit.Channel (ChannelDelete channel)) = refl
id-kept s (edit.Channel (OverwriteSet set)) = refl
id-kept s (edit.Channel (OverwriteDelete delete)) = refl
id-kept s (edit.Thread (ThreadCreate create)) = refl
id-kept s (edit.Thread (ThreadRename rename)) = refl
id-kept s (edit.Thread (ThreadArchive thread)) = refl
id-kept s (edit.Thread (ThreadUnarchive thread)) = refl
id-kept s (edit.Thread (ThreadDelete thread)) = refl
id-kept s (edit.Thread (ThreadJoin join)) = refl
id-kept s (edit.Thread (ThreadLeave leave)) = refl
id-kept s (edit.VoicePresence (VoiceSet set)) = voice-id s set set.channel
id-kept s (edit.VoicePresence (PresenceSet set)) = presence-id s set.user (status_shown set.status)
id-kept s (edit.Message e) = message-id s e

-- each dispatch is of the guild
pub dispatches-of : (before : Record) (me : Member) (after : Record) (me' : Member) (v : Viewer) (e : Edit) → All (IsOf after.id) (whole_dispatches before me after me' v e)
dispatches-of before me after me' v (edit.Guild (GuildOpen opening)) = All-nil (IsOf after.id)
dispatches-of before me after me' v (edit.Guild (GuildRename name)) = asked-of after.id v false (GuildUpdate (record { id = after.id; name = after.name; owner = after.owner })) refl
dispatches-of before me after me' v (edit.Guild (GuildOwner user)) = append-of after.id _ _ (asked-of after.id v false (GuildUpdate (record { id = after.id; name = after.name; owner = after.owner })) refl) (sync-of (shown_to before me) (shown_to after me') after v me'.user.id)
dispatches-of before me after me' v (edit.Guild GuildOutage) = All-nil (IsOf after.id)
dispatches-of before me after me' v (edit.Guild GuildBack) = All-nil (IsOf after.id)
dispatches-of before me after me' v (edit.Guild (GuildPrivate private)) = All-nil (IsOf after.id)
dispatches-of before me after me' v (edit.RoleMember e) = role_member-of after v before me me' e
dispatches-of before me after me' v (edit.Channel e) = channel-of after v before me me' e
dispatches-of before me after me' v (edit.Thread e) = thread-of before me after me' v e
dispatches-of before me after me' v (edit.VoicePresence e) = voice_presence-of after v e
dispatches-of before me after me' v (edit.Message e) = message-of after v (message_note before e) e
