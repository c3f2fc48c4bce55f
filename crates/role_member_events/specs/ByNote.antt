-- internal: the same dispatches by what was noted before an edit; that they are those of `Dispatches` is proved.
use Rattle.std.specs.Prelude.{ℕ, ◌++◌, List, []}
use Rattle.guild_model.specs.declared.member.Member.{Member}
use Rattle.guild_model.specs.Record.{Record}
use Rattle.dispatch_types.specs.declared.viewer.Viewer.{Viewer}
use Rattle.dispatch_types.specs.declared.dispatch.Dispatch.{Dispatch}
use Rattle.role_member_edit.specs.declared.RoleMemberEdit.{RoleMemberEdit}
use Rattle.role_member_edit.specs.declared.RoleMemberEdit.TheVariants.{RoleCreate, RoleUpdate, RoleDelete, MemberAdd, MemberRemove, MemberNick, MemberTimeout, MemberRoleAdd, MemberRoleRemove}
use Rattle.thread_sync.specs.ChannelSights.{by_sights}
use Rattle.thread_sync.specs.Sync.{uncovered_to}
use Rattle.event_views.specs.Asked.{told_if}
use Rattle.role_member_events.specs.declared.ends.RoleMemberNote.{RoleMemberNote}
use Rattle.role_member_events.specs.declared.ends.RoleMemberNote.TheVariants.{Nothing, Sights, Leaving}
use Rattle.role_member_events.specs.Dispatches.{role_creates, role_updates, role_deletes, member_adds, member_updated, member_ends}

-- what ends with a removed member
abbrev pub ended_by_note : Record → Viewer → RoleMemberNote → List Dispatch
ended_by_note after v (Leaving end) = member_ends after v end.user end.presence end.voice end.threads
ended_by_note after v (Sights before) = []
ended_by_note after v Nothing = []

-- the sync, by the sights of the channels before
abbrev pub synced_by_note : RoleMemberNote → Record → Viewer → Member → List Dispatch
synced_by_note (Sights before) after v me = told_if v (uncovered_to (by_sights before) after me)
synced_by_note (Leaving end) after v me = []
synced_by_note Nothing after v me = []

module _ (note : RoleMemberNote) (after : Record) (v : Viewer) (me : Member) where
  abbrev pub roles_by_note : ℕ → List Dispatch
  roles_by_note user = member_updated after v user ++ synced_by_note note after v me

  abbrev pub role_member_by_note : RoleMemberEdit → List Dispatch
  role_member_by_note (RoleCreate edit) = role_creates after v edit
  role_member_by_note (RoleUpdate edit) = role_updates after v edit ++ synced_by_note note after v me
  role_member_by_note (RoleDelete role) = role_deletes after v role ++ synced_by_note note after v me
  role_member_by_note (MemberAdd edit) = member_adds after v edit
  role_member_by_note (MemberRemove user) = ended_by_note after v note
  role_member_by_note (MemberNick edit) = member_updated after v edit.user
  role_member_by_note (MemberTimeout edit) = member_updated after v edit.user
  role_member_by_note (MemberRoleAdd edit) = roles_by_note edit.user
  role_member_by_note (MemberRoleRemove edit) = roles_by_note edit.user
