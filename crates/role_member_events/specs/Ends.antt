-- What has to be known of the record before an edit of roles or members.
use Rattle.std.specs.Prelude.{ℕ, Bool, true, false, ◌==◌, Option, Some, None, if◌then◌else◌}
use Rattle.collections.specs.ById.{find_id, has_id}
use Rattle.guild_model.specs.declared.member.Member.{Member}
use Rattle.guild_model.specs.Record.{Record, member_id, voice_id, presence_id}
use Rattle.guild_model.specs.Sight.{standing}
use Rattle.thread_sync.specs.ChannelSights.{sights}
use Rattle.event_views.specs.Threads.{threads_left}
use Rattle.role_member_edit.specs.declared.RoleMemberEdit.{RoleMemberEdit}
use Rattle.role_member_edit.specs.declared.RoleMemberEdit.TheVariants.{RoleCreate, RoleUpdate, RoleDelete, MemberAdd, MemberRemove, MemberNick, MemberTimeout, MemberRoleAdd, MemberRoleRemove}
use Rattle.role_member_events.specs.declared.ends.MemberEnd.{MemberEnd}
use Rattle.role_member_events.specs.declared.ends.RoleMemberNote.{RoleMemberNote}
use Rattle.role_member_events.specs.declared.ends.RoleMemberNote.TheVariants.{Nothing, Sights, Leaving}

-- of a member that is removed: its presence, its voice state, and the threads that it is in
abbrev pub end_of : Record → Member → Member → MemberEnd
end_of s me m = record {
  user = m.user;
  presence = has_id presence_id m.user.id s.presences;
  voice = find_id voice_id m.user.id s.voices;
  threads = threads_left s me m.user.id;
}

abbrev pub before_end : Record → Member → Option Member → RoleMemberNote
before_end s me None = Nothing
before_end s me (Some m) = Leaving (end_of s me m)

-- the sights of the channels that the viewer sees, where a change of rights may change them
abbrev pub before_rights : Record → Member → RoleMemberNote
before_rights s me = Sights (sights (standing s me))

-- a change of a user's roles changes what the viewer sees only where the user is its own
abbrev pub before_own_rights : Record → Member → ℕ → RoleMemberNote
before_own_rights s me user = if user == me.user.id then before_rights s me else Nothing

abbrev pub role_member_note : Record → Member → RoleMemberEdit → RoleMemberNote
role_member_note s me (RoleUpdate edit) = before_rights s me
role_member_note s me (RoleDelete role) = before_rights s me
role_member_note s me (MemberRoleAdd edit) = before_own_rights s me edit.user
role_member_note s me (MemberRoleRemove edit) = before_own_rights s me edit.user
role_member_note s me (MemberRemove user) = before_end s me (find_id member_id user s.members)
role_member_note s me (RoleCreate edit) = Nothing
role_member_note s me (MemberAdd edit) = Nothing
role_member_note s me (MemberNick edit) = Nothing
role_member_note s me (MemberTimeout edit) = Nothing

-- whether a note keeps sights
abbrev pub keeps_sights : RoleMemberNote → Bool
keeps_sights Nothing = false
keeps_sights (Sights ss) = true
keeps_sights (Leaving end) = false
