-- Roles that are created, replaced and deleted, and members that are given and lose them.
use Rattle.std.proofs.Common.{◌≡◌, ℕ, Bool, true, false, List, [], ◌∷◌, ◌++◌, map, Option, Some, None, if◌then◌else◌, refl, sym, ap, ◌∙◌}
use Rattle.std.specs.Prelude.{◌==◌, filter, length, option_map}
use Rattle.std.proofs.lemmas.Bool.{or_parts}
use Rattle.collections.specs.ById.{find_id, has_id, put_id, IsById}
use Rattle.collections.proofs.Finds.{find-map}
use Rattle.perm_bits.specs.Bits.{has_bit}
use Rattle.intent_set.specs.Intents.{guilds, guild_members}
use Rattle.guild_model.specs.declared.member.Member.{Member}
use Rattle.guild_model.specs.declared.role.Role.{Role}
use Rattle.guild_model.specs.declared.channel.Channel.{Channel}
use Rattle.guild_model.specs.Record.{Record, own_id, role_id, member_id, channel_id}
use Rattle.guild_model.specs.Changes.{without_role, without_role_overwrite}
use Rattle.guild_model.specs.Ascending.{IsWell}
use Rattle.dispatch_types.specs.declared.viewer.Viewer.{Viewer}
use Rattle.dispatch_types.specs.declared.view.ThreadView.{ThreadView}
use Rattle.dispatch_types.specs.declared.dispatch.Dispatch.{Dispatch}
use Rattle.dispatch_types.specs.declared.dispatch.Dispatch.TheVariants.{GuildRoleCreate, GuildRoleUpdate, GuildRoleDelete, GuildMemberUpdate}
use Rattle.dispatch_types.specs.Objects.{member_object, member_of}
use Rattle.dispatch_types.specs.Projection.{told, listed, is_known, open_view}
use Rattle.dispatch_types.specs.Fold.{Held, set_role, drop_role, update_member, fold_from}
use Rattle.dispatch_types.proofs.Objects.{member-back}
use Rattle.dispatch_types.proofs.Folds.{folded-here}
use Rattle.role_member_edit.specs.Roles.{with_role_set, role_deleted}
use Rattle.role_member_edit.specs.Members.{with_member_changed}
use Rattle.thread_sync.specs.Law.{ChangesRights, told_plainly, kind_in}
use Rattle.thread_sync.proofs.Lists.{filter-map}
use Rattle.thread_sync.proofs.Sights.{threads_stay, role-created-keeps}
use Rattle.event_views.specs.Asked.{asked}
use Rattle.event_views.specs.Synced.{synced}
use Rattle.event_views.specs.Has.{Has}
use Rattle.event_views.proofs.Steps.{same, whole, by_guilds, by_asked_then}
use Rattle.event_views.proofs.Lists.{same-parts}
use Rattle.event_views.proofs.Rights.{follows-rights, follows-unsaid}
use Rattle.role_member_events.specs.Dispatches.{guild_member}
use Rattle.role_member_events.proofs.Membership.{updates, silent, own-user, other-user}

-- the dispatches of a role
abbrev pub created : Record → Role → Dispatch
created s r = GuildRoleCreate (record { guild = s.id; role = r })

abbrev pub replaced : Record → Role → Dispatch
replaced s r = GuildRoleUpdate (record { guild = s.id; role = r })

abbrev pub deleted : Record → ℕ → Dispatch
deleted s role = GuildRoleDelete (record { guild = s.id; role = role })

-- a role that is created changes nothing of what is seen
pub follows-role_create : (s : Record) (v : Viewer) (h : Held) (me : Member) (r : Role) → IsWell s → s.opened ≡ true
    → find_id member_id v.user s.members ≡ Some me → has_bit v.intents guilds ≡ true → has_id role_id r.id s.roles ≡ false
    → Has s v me h → Has (with_role_set s r) v me (fold_from v.intents s.id h (asked v false (created s r)))
follows-role_create s v h me r well opened found asks new has =
    let t : Record = with_role_set s r in
    let stays = threads_stay s t me me v.intents h.known h.known well.ascending refl refl (role-created-keeps s me r v.user well.consistent opened found new) in
    by_guilds t v s.id h me false (created s r) asks refl
    (whole s t v h me me (created s r) (set_role r) same refl (folded-here v.intents s.id h (created s r) refl refl)
    (ap (λ (threads : List ThreadView). record (open_view t v.intents h.known me) { threads = threads }) (sym stays)) has)

-- one that is replaced may change what is seen
pub follows-role_update : (s : Record) (v : Viewer) (h : Held) (me : Member) (r : Role) → IsWell s → has_bit v.intents guilds ≡ true
    → Has s v me h → Has (with_role_set s r) v me (fold_from v.intents s.id h (asked v false (replaced s r) ++ synced s me (with_role_set s r) me v))
follows-role_update s v h me r well asks has =
    let t : Record = with_role_set s r in
    let rights : ChangesRights s t = record { id = refl; channels = λ c. refl; threads = refl } in
    by_asked_then t v s.id h me false (replaced s r) (synced s me t me v)
    (λ e. follows-rights s t v h me me well rights refl asks (replaced s r) (set_role r) same (folded-here v.intents s.id h (replaced s r) refl refl) refl has)
    (λ e. absurd (cc))

-- and so may one that is deleted
pub follows-role_delete : (s : Record) (v : Viewer) (h : Held) (me : Member) (role : ℕ) → IsWell s → has_bit v.intents guilds ≡ true
    → Has s v me h → Has (role_deleted s role) v (without_role role me) (fold_from v.intents s.id h (asked v false (deleted s role) ++ synced s me (role_deleted s role) (without_role role me) v))
follows-role_delete s v h me role well asks has =
    let t : Record = role_deleted s role in
    let rights : ChangesRights s t = record { id = refl; channels = kinds; threads = refl } in
    by_asked_then t v s.id h (without_role role me) false (deleted s role) (synced s me t (without_role role me) v)
    (λ e. follows-rights s t v h me (without_role role me) well rights refl asks (deleted s role) (drop_role role) same (folded-here v.intents s.id h (deleted s role) refl refl) drops has)
    (λ e. absurd (cc))
  where
    kinds : (channel : ℕ) → option_map kind_in (find_id channel_id channel (map (without_role_overwrite role) s.channels)) ≡ option_map kind_in (find_id channel_id channel s.channels)
    kinds channel = ap (option_map kind_in) (find-map channel_id channel_id (without_role_overwrite role) (λ c. refl) channel s.channels) ∙ by_case (find_id channel_id channel s.channels)
      where
        by_case : (o : Option Channel) → option_map kind_in (option_map (without_role_overwrite role) o) ≡ option_map kind_in o
        by_case None = refl
        by_case (Some c) = refl

    members : map (without_role role) (listed v.intents guild_members (filter (is_known h.known) s.members)) ≡ listed v.intents guild_members (filter (is_known h.known) (map (without_role role) s.members))
    members = by_bit (has_bit v.intents guild_members)
      where
        by_bit : (b : Bool) → map (without_role role) (if b then filter (is_known h.known) s.members else []) ≡ (if b then filter (is_known h.known) (map (without_role role) s.members) else [])
        by_bit true = sym (filter-map (without_role role) (is_known h.known) s.members)
        by_bit false = refl

    length-map : (xs : List Member) → length (map (without_role role) xs) ≡ length xs
    length-map [] = refl
    length-map (x ∷ xs) = let e = length-map xs in cc

    drops : drop_role role (open_view s v.intents h.known me) ≡ told_plainly s me (role_deleted s role) (without_role role me) v.intents h.known
    drops = same-parts (told_plainly s me (role_deleted s role) (without_role role me) v.intents h.known) members (ap (told v.intents guild_members) (sym (length-map s.members))) refl

-- a member's roles change
pub follows-member_roles : (s : Record) (v : Viewer) (user : ℕ) (f : Member → Member) (x me me' : Member) → ((m : Member) → (f m).user.id ≡ m.user.id) → IsWell s
    → find_id member_id user s.members ≡ Some x → find_id member_id v.user s.members ≡ Some me → find_id member_id v.user (with_member_changed s user f).members ≡ Some me'
    → (h : Held) → IsById own_id (f x).roles → has_bit v.intents guilds ≡ true
    → Has s v me h → Has (with_member_changed s user f) v me' (fold_from v.intents s.id h (asked v ((f x).user.id == v.user) (GuildMemberUpdate (guild_member s.id (f x))) ++ synced s me (with_member_changed s user f) me' v))
follows-member_roles s v user f x me me' same_user well found own own' h ordered asks has =
    let t : Record = with_member_changed s user f in
    let rights : ChangesRights s t = record { id = refl; channels = λ c. refl; threads = refl } in
    let mine = own-user s v user f x me me' same_user well.ascending found own own' in
    by_asked_then t v s.id h me' ((f x).user.id == v.user) (GuildMemberUpdate (guild_member s.id (f x))) (synced s me t me' v)
    (λ e. follows-rights s t v h me me' well rights mine asks (GuildMemberUpdate (guild_member s.id (f x))) (update_member v.intents h.bot (member_of (member_object (f x)))) (put_id own_id (f x).user.id)
    (folded-here v.intents s.id h (GuildMemberUpdate (guild_member s.id (f x))) refl refl)
    (ap (λ (m : Member). update_member v.intents h.bot m (open_view s v.intents h.known me)) (member-back (f x) ordered)
    ∙ (ap (λ bot. update_member v.intents bot (f x) (open_view s v.intents h.known me)) has.bot
    ∙ updates s v user f x me me' same_user well.ascending found own own' h.known)) has)
    (λ blind. let parts = or_parts ((f x).user.id == v.user) (has_bit v.intents guild_members) blind in
    follows-unsaid s t v h me me' well rights mine asks
    (silent s v user f x me me' same_user well.ascending found own own' h.known (other-user s v user f x me me' same_user well.ascending found own own' parts.0) parts.1) has)
