-- What the edits of roles and members owe to a viewer that is served before and after them, by the records
-- before and after (Gateway Events, Guild Role Create to Guild Member Remove).
use Rattle.std.specs.Prelude.{ℕ, ◌==◌, ◌++◌, List, [], Bool, true, false, Option, Some, None}
use Rattle.collections.specs.ById.{find_id, has_id}
use Rattle.guild_model.specs.declared.member.Member.{Member}
use Rattle.guild_model.specs.declared.user.User.{User}
use Rattle.guild_model.specs.declared.voice.Voice.{Voice}
use Rattle.guild_model.specs.Record.{Record, member_id, voice_id, presence_id}
use Rattle.dispatch_types.specs.declared.viewer.Viewer.{Viewer}
use Rattle.dispatch_types.specs.declared.roles.GuildRole.{GuildRole}
use Rattle.dispatch_types.specs.declared.members.GuildMember.{GuildMember}
use Rattle.dispatch_types.specs.declared.dispatch.Dispatch.{Dispatch}
use Rattle.dispatch_types.specs.declared.dispatch.Dispatch.TheVariants.{GuildRoleCreate, GuildRoleUpdate, GuildRoleDelete, GuildMemberAdd, GuildMemberUpdate, GuildMemberRemove, PresenceUpdate}
use Rattle.dispatch_types.specs.Objects.{member_object}
use Rattle.role_member_edit.specs.declared.role_body.RoleBody.{RoleBody}
use Rattle.role_member_edit.specs.declared.member_add.MemberAdd.{MemberAdd as Addition}
use Rattle.role_member_edit.specs.declared.RoleMemberEdit.{RoleMemberEdit}
use Rattle.role_member_edit.specs.declared.RoleMemberEdit.TheVariants.{RoleCreate, RoleUpdate, RoleDelete, MemberAdd, MemberRemove, MemberNick, MemberTimeout, MemberRoleAdd, MemberRoleRemove}
use Rattle.role_member_edit.specs.Roles.{role_of}
use Rattle.role_member_edit.specs.Members.{new_member}
use Rattle.event_views.specs.Asked.{asked}
use Rattle.event_views.specs.Ended.{voice_ends}
use Rattle.event_views.specs.Synced.{synced}
use Rattle.event_views.specs.Threads.{threads_left, user_leaves}
use Rattle.voice_presence_events.specs.Dispatches.{presence_told}

-- GUILD_ROLE_CREATE, GUILD_ROLE_UPDATE and GUILD_ROLE_DELETE
abbrev pub guild_role : ℕ → RoleBody → GuildRole
guild_role guild edit = record { guild = guild; role = role_of edit }

abbrev pub role_creates : Record → Viewer → RoleBody → List Dispatch
role_creates after v edit = asked v false (GuildRoleCreate (guild_role after.id edit))

abbrev pub role_updates : Record → Viewer → RoleBody → List Dispatch
role_updates after v edit = asked v false (GuildRoleUpdate (guild_role after.id edit))

abbrev pub role_deletes : Record → Viewer → ℕ → List Dispatch
role_deletes after v role = asked v false (GuildRoleDelete (record { guild = after.id; role = role }))

-- GUILD_MEMBER_ADD
abbrev pub guild_member : ℕ → Member → GuildMember
guild_member guild m = record { guild = guild; member = member_object m }

abbrev pub added_member : ℕ → Addition → GuildMember
added_member guild edit = guild_member guild (new_member edit.user edit.name edit.bot edit.at)

abbrev pub member_adds : Record → Viewer → Addition → List Dispatch
member_adds after v edit = asked v (edit.user == v.user) (GuildMemberAdd (added_member after.id edit))

-- GUILD_MEMBER_UPDATE of a member as it is after the edit
abbrev pub member_told : Record → Viewer → Option Member → List Dispatch
member_told after v None = []
member_told after v (Some m) = asked v (m.user.id == v.user) (GuildMemberUpdate (guild_member after.id m))

abbrev pub member_updated : Record → Viewer → ℕ → List Dispatch
member_updated after v user = member_told after v (find_id member_id user after.members)

-- a removed member is offline, not in voice, and in none of the threads that the viewer sees
abbrev pub presence_ended : Record → Viewer → ℕ → Bool → List Dispatch
presence_ended after v user true = asked v false (PresenceUpdate (presence_told after.id user None))
presence_ended after v user false = []

abbrev pub voice_ended : Record → Viewer → Option Voice → List Dispatch
voice_ended after v None = []
voice_ended after v (Some voice) = voice_ends after.id v voice

abbrev pub member_removes : Record → Viewer → User → List Dispatch
member_removes after v user =
    asked v (user.id == v.user) (GuildMemberRemove (record { guild = after.id; user = user }))

-- the end of a user: of its presence, if it had one, of its voice state, of its part in these threads, and of
-- the member itself
abbrev pub member_ends : Record → Viewer → User → Bool → Option Voice → List ℕ → List Dispatch
member_ends after v user presence voice threads =
    presence_ended after v user.id presence
    ++ (voice_ended after v voice
    ++ (user_leaves after.id v user.id after.threads threads
    ++ member_removes after v user))

-- of a member of the record before, whose threads are the active ones that the viewer saw
abbrev pub member_ended : Record → Member → Record → Viewer → Option Member → List Dispatch
member_ended before me after v None = []
member_ended before me after v (Some m) =
    member_ends after v m.user (has_id presence_id m.user.id before.presences)
    (find_id voice_id m.user.id before.voices) (threads_left before me m.user.id)

-- the dispatches of an edit in order, by the record before it and the record after, with the viewer's own
-- member in each
module _ (before : Record) (me : Member) (after : Record) (me' : Member) (v : Viewer) where
  -- a member's roles change: the member, and then THREAD_LIST_SYNC of what it uncovers, if the viewer gains
  abbrev pub roles_changed : ℕ → List Dispatch
  roles_changed user = member_updated after v user ++ synced before me after me' v

  abbrev pub role_member_dispatches : RoleMemberEdit → List Dispatch
  role_member_dispatches (RoleCreate edit) = role_creates after v edit
  role_member_dispatches (RoleUpdate edit) = role_updates after v edit ++ synced before me after me' v
  role_member_dispatches (RoleDelete role) = role_deletes after v role ++ synced before me after me' v
  role_member_dispatches (MemberAdd edit) = member_adds after v edit
  role_member_dispatches (MemberRemove user) =
      member_ended before me after v (find_id member_id user before.members)
  role_member_dispatches (MemberNick edit) = member_updated after v edit.user
  role_member_dispatches (MemberTimeout edit) = member_updated after v edit.user
  role_member_dispatches (MemberRoleAdd edit) = roles_changed edit.user
  role_member_dispatches (MemberRoleRemove edit) = roles_changed edit.user
