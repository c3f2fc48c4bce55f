-- The dispatches by what was noted of the record before an edit are those by that record.
use Rattle.std.specs.Prelude.{◌≡◌, Some}
use Rattle.collections.specs.ById.{find_id}
use Rattle.guild_model.specs.declared.member.Member.{Member}
use Rattle.guild_model.specs.Record.{Record, member_id}
use Rattle.dispatch_types.specs.declared.viewer.Viewer.{Viewer}
use Rattle.role_member_edit.specs.declared.RoleMemberEdit.{RoleMemberEdit}
use Rattle.role_member_edit.specs.RoleMember.{role_member_applied}
use Rattle.role_member_events.specs.Ends.{role_member_note}
use Rattle.role_member_events.specs.Dispatches.{role_member_dispatches}
use Rattle.role_member_events.specs.ByNote.{role_member_by_note}

-- to a viewer whose own member is there before and after it
abbrev pub RoleMemberNoteIsEnough : Type 0
RoleMemberNoteIsEnough = (s : Record) (e : RoleMemberEdit) (v : Viewer) (me me' : Member)
    → find_id member_id v.user s.members ≡ Some me
    → find_id member_id v.user (role_member_applied s e).members ≡ Some me'
    → role_member_by_note (role_member_note s me e) (role_member_applied s e) v me' e
    ≡ role_member_dispatches s me (role_member_applied s e) me' v e
