-- Each dispatch of an edit is of the guild.
use Rattle.std.proofs.Common.{ℕ, Bool, true, false, List, Option, Some, None, refl}
use Rattle.std.specs.Prelude.{◌==◌, All}
use Rattle.std.proofs.lemmas.List.Elements.{All-nil}
use Rattle.collections.specs.ById.{find_id, has_id}
use Rattle.guild_model.specs.declared.member.Member.{Member}
use Rattle.guild_model.specs.declared.voice.Voice.{Voice}
use Rattle.guild_model.specs.declared.user.User.{User}
use Rattle.guild_model.specs.Record.{Record, member_id, voice_id, presence_id}
use Rattle.dispatch_types.specs.declared.viewer.Viewer.{Viewer}
use Rattle.dispatch_types.specs.declared.dispatch.Dispatch.TheVariants.{GuildRoleCreate, GuildRoleUpdate, GuildRoleDelete, GuildMemberAdd, GuildMemberUpdate, GuildMemberRemove, PresenceUpdate}
use Rattle.role_member_edit.specs.declared.RoleMemberEdit.{RoleMemberEdit}
use Rattle.role_member_edit.specs.declared.RoleMemberEdit.TheVariants.{RoleCreate, RoleUpdate, RoleDelete, MemberAdd, MemberRemove, MemberNick, MemberTimeout, MemberRoleAdd, MemberRoleRemove}
use Rattle.thread_sync.specs.Shown.{shown_to}
use Rattle.event_views.specs.Synced.{synced}
use Rattle.event_views.specs.Threads.{threads_left}
use Rattle.voice_presence_events.specs.Dispatches.{presence_told}
use Rattle.event_views.proofs.Steps.{IsOf, asked-of, append-of}
use Rattle.event_views.proofs.Rights.{sync-of}
use Rattle.event_views.proofs.Voices.{ended}
use Rattle.event_views.proofs.Left.{user_leaves-of}
use Rattle.role_member_events.specs.Dispatches.{guild_role, guild_member, added_member, member_told, presence_ended, voice_ended, member_ended, member_ends, roles_changed, role_member_dispatches}

module _ (after : Record) (v : Viewer) where
  member-of : (o : Option Member) → All (IsOf after.id) (member_told after v o)
  member-of None = All-nil (IsOf after.id)
  member-of (Some m) = asked-of after.id v (m.user.id == v.user) (GuildMemberUpdate (guild_member after.id m)) refl

  presence-of : (user : ℕ) (b : Bool) → All (IsOf after.id) (presence_ended after v user b)
  presence-of user true = asked-of after.id v false (PresenceUpdate (presence_told after.id user None)) refl
  presence-of user false = All-nil (IsOf after.id)

  voice-of : (o : Option Voice) → All (IsOf after.id) (voice_ended after v o)
  voice-of None = All-nil (IsOf after.id)
  voice-of (Some voice) = asked-of after.id v false (ended after voice) refl

  ends-of : (user : User) (presence : Bool) (voice : Option Voice) (threads : List ℕ) → All (IsOf after.id) (member_ends after v user presence voice threads)
  ends-of user presence voice threads =
      append-of after.id _ _ (presence-of user.id presence)
      (append-of after.id _ _ (voice-of voice)
      (append-of after.id _ _ (user_leaves-of after.id v user.id after.threads threads)
      (asked-of after.id v (user.id == v.user) (GuildMemberRemove (record { guild = after.id; user = user })) refl)))

  module _ (before : Record) (me me' : Member) where
    ended-of : (o : Option Member) → All (IsOf after.id) (member_ended before me after v o)
    ended-of None = All-nil (IsOf after.id)
    ended-of (Some m) = ends-of m.user (has_id presence_id m.user.id before.presences) (find_id voice_id m.user.id before.voices) (threads_left before me m.user.id)

    synced-of : All (IsOf after.id) (synced before me after me' v)
    synced-of = sync-of (shown_to before me) (shown_to after me') after v me'.user.id

    roles-of : (user : ℕ) → All (IsOf after.id) (roles_changed before me after me' v user)
    roles-of user = append-of after.id _ _ (member-of (find_id member_id user after.members)) synced-of

    pub dispatches-of : (e : RoleMemberEdit) → All (IsOf after.id) (role_member_dispatches before me after me' v e)
    dispatches-of (RoleCreate e) = asked-of after.id v false (GuildRoleCreate (guild_role after.id e)) refl
    dispatches-of (RoleUpdate e) = append-of after.id _ _ (asked-of after.id v false (GuildRoleUpdate (guild_role after.id e)) refl) synced-of
    dispatches-of (RoleDelete role) = append-of after.id _ _ (asked-of after.id v false (GuildRoleDelete (record { guild = after.id; role = role })) refl) synced-of
    dispatches-of (MemberAdd e) = asked-of after.id v (e.user == v.user) (GuildMemberAdd (added_member after.id e)) refl
    dispatches-of (MemberRemove user) = ended-of (find_id member_id user before.members)
    dispatches-of (MemberNick e) = member-of (find_id member_id e.user after.members)
    dispatches-of (MemberTimeout e) = member-of (find_id member_id e.user after.members)
    dispatches-of (MemberRoleAdd e) = roles-of e.user
    dispatches-of (MemberRoleRemove e) = roles-of e.user
