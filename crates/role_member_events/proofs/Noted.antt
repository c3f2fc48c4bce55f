-- The dispatches by what was noted before an edit are those by the record before it.
use Rattle.std.proofs.Common.{◌≡◌, ℕ, Bool, true, false, ◌++◌, Option, Some, None, if◌then◌else◌, refl, sym, ap, ◌∙◌}
use Rattle.std.specs.Prelude.{◌==◌, option_map}
use Rattle.collections.specs.ById.{find_id}
use Rattle.collections.proofs.Finds.{key-found, find-changed}
use Rattle.guild_model.specs.declared.member.Member.{Member}
use Rattle.guild_model.specs.Record.{Record, member_id}
use Rattle.guild_model.specs.Changes.{without_role}
use Rattle.dispatch_types.specs.declared.viewer.Viewer.{Viewer}
use Rattle.role_member_edit.specs.declared.RoleMemberEdit.TheVariants.{RoleCreate, RoleUpdate, RoleDelete, MemberAdd, MemberRemove, MemberNick, MemberTimeout, MemberRoleAdd, MemberRoleRemove}
use Rattle.role_member_edit.specs.Roles.{role_of, with_role_set, role_deleted}
use Rattle.role_member_edit.specs.Members.{member_removed, with_member_changed}
use Rattle.role_member_edit.specs.HeldRoles.{with_role}
use Rattle.thread_sync.proofs.Enough.{sights_are_enough}
use Rattle.event_views.specs.Asked.{told_if}
use Rattle.event_views.specs.Synced.{synced}
use Rattle.event_views.proofs.Syncs.{synced-same}
use Rattle.role_member_events.specs.declared.ends.RoleMemberNote.TheVariants.{Nothing}
use Rattle.role_member_events.specs.Ends.{before_end, before_rights, before_own_rights}
use Rattle.role_member_events.specs.Dispatches.{role_updates, role_deletes, member_updated, member_ended, roles_changed}
use Rattle.role_member_events.specs.ByNote.{ended_by_note, synced_by_note, roles_by_note}
use Rattle.role_member_events.specs.Law.{RoleMemberNoteIsEnough}

-- the sync after a change of rights
rights-noted : (s t : Record) (v : Viewer) (me me' : Member) → synced_by_note (before_rights s me) t v me' ≡ synced s me t me' v
rights-noted s t v me me' = ap (told_if v) (sights_are_enough s t me me')

-- what ends with a removed member
end-noted : (s t : Record) (v : Viewer) (me : Member) (o : Option Member) → ended_by_note t v (before_end s me o) ≡ member_ended s me t v o
end-noted s t v me None = refl
end-noted s t v me (Some m) = refl

-- a change of a member's roles uncovers nothing to another
module _ (s : Record) (v : Viewer) (user : ℕ) (f : Member → Member) (me me' : Member) (same : (m : Member) → (f m).user.id ≡ m.user.id)
    (own : find_id member_id v.user s.members ≡ Some me) (own' : find_id member_id v.user (with_member_changed s user f).members ≡ Some me') where
  abbrev t : Record
  t = with_member_changed s user f

  stays : (user == v.user) ≡ false → me' ≡ me
  stays other =
      let found : Some me' ≡ Some me =
      sym own' ∙ (find-changed member_id user f same v.user s.members
      ∙ (ap (λ b. if b then option_map f (find_id member_id v.user s.members) else find_id member_id v.user s.members) other ∙ own)) in
      cc

  roles-noted : roles_by_note (before_own_rights s me user) t v me' user ≡ roles_changed s me t me' v user
  roles-noted = by_own (user == me.user.id) refl
    where
      by_own : (b : Bool) → (user == me.user.id) ≡ b
          → member_updated t v user ++ synced_by_note (if b then before_rights s me else Nothing) t v me' ≡ member_updated t v user ++ synced s me t me' v
      by_own true is = ap (λ ds. member_updated t v user ++ ds) (rights-noted s t v me me')
      by_own false is =
          let mine : me' ≡ me = stays (ap (λ u. user == u) (sym (key-found member_id v.user s.members me own)) ∙ is) in
          ap (λ ds. member_updated t v user ++ ds) (sym (ap (λ (m : Member). synced s me t m v) mine ∙ synced-same s t me v refl))

pub role_member_note_is_enough : RoleMemberNoteIsEnough
role_member_note_is_enough s (RoleCreate e) v me me' own own' = refl
role_member_note_is_enough s (RoleUpdate e) v me me' own own' =
    ap (λ ds. role_updates (with_role_set s (role_of e)) v e ++ ds) (rights-noted s (with_role_set s (role_of e)) v me me')
role_member_note_is_enough s (RoleDelete role) v me me' own own' =
    ap (λ ds. role_deletes (role_deleted s role) v role ++ ds) (rights-noted s (role_deleted s role) v me me')
role_member_note_is_enough s (MemberAdd e) v me me' own own' = refl
role_member_note_is_enough s (MemberRemove user) v me me' own own' = end-noted s (member_removed s user) v me (find_id member_id user s.members)
role_member_note_is_enough s (MemberNick e) v me me' own own' = refl
role_member_note_is_enough s (MemberTimeout e) v me me' own own' = refl
role_member_note_is_enough s (MemberRoleAdd e) v me me' own own' = roles-noted s v e.user (with_role e.role) me me' (λ m. refl) own own'
role_member_note_is_enough s (MemberRoleRemove e) v me me' own own' = roles-noted s v e.user (without_role e.role) me me' (λ m. refl) own own'
