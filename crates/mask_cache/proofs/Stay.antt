-- No other mask changes than those that an edit may change.
use Rattle.std.proofs.Common.{◌≡◌, ℕ, Bool, true, false, not, ◌&&◌, ◌||◌, List, [], ◌∷◌, map, Option, Some, None, if◌then◌else◌, refl, sym, ap, ◌∙◌, subst, eq-eqb}
use Rattle.std.specs.Prelude.{◌==◌, is_some, length, option_map}
use Rattle.std.proofs.lemmas.Bool.{eqb-true, false_from_ne_true}
use Rattle.collections.specs.ById.{find_id, has_id, put_id, changed_id, without_id}
use Rattle.collections.proofs.Finds.{find-put, find-changed, find-without, find-map}
use Rattle.collections.proofs.Has.{has-put, has-changed, has-map, has-without, has-left}
use Rattle.guild_model.specs.declared.member.Member.{Member}
use Rattle.guild_model.specs.declared.channel.Channel.{Channel}
use Rattle.guild_model.specs.declared.channel.Overwrites.{Overwrites}
use Rattle.guild_model.specs.declared.presence.ShownStatus.{ShownStatus}
use Rattle.guild_model.specs.declared.verdict.Verdict.{Verdict}
use Rattle.guild_model.specs.declared.verdict.Verdict.TheVariants.{IdTaken, UnknownChannel}
use Rattle.guild_model.specs.Record.{Record, own_id, role_id, member_id, channel_id}
use Rattle.guild_model.specs.Consistent.{IsConsistent}
use Rattle.guild_model.specs.Statuses.{status_shown}
use Rattle.guild_model.specs.Tests.{refused_if, first_of, too_many, too_long, unknown_channel}
use Rattle.guild_model.proofs.Tests.{first_passes, not_refused, passed}
use Rattle.guild_model.specs.Permissions.{part_base, part_grants, base_of, grants_of}
use Rattle.overwrite_eval.proofs.Alike.{base-member, grants-member, base-role, grants-role}
use Rattle.voice_presence.specs.declared.VoicePresenceEdit.TheVariants.{VoiceSet, PresenceSet}
use Rattle.voice_presence.specs.declared.voice_set.VoiceSet.{VoiceSet as Setting}
use Rattle.voice_presence.specs.Voices.{with_voice}
use Rattle.voice_presence.specs.Presences.{with_shown_status}
use Rattle.thread_edit.specs.declared.ThreadEdit.{ThreadEdit}
use Rattle.thread_edit.specs.ThreadEdits.{thread_applied}
use Rattle.message_edit.specs.MessageEdits.{message_applied}
use Rattle.message_edit.specs.Messages.{member_user, written_by}
use Rattle.message_edit.specs.declared.message_create.MessageCreate.{MessageCreate as Writing}
use Rattle.guild_model.specs.declared.user.User.{User}
use Rattle.thread_edit.specs.declared.ThreadEdit.TheVariants.{ThreadCreate, ThreadRename, ThreadArchive, ThreadUnarchive, ThreadDelete, ThreadJoin, ThreadLeave}
use Rattle.message_edit.specs.declared.MessageEdit.{MessageEdit}
use Rattle.message_edit.specs.declared.MessageEdit.TheVariants.{MessageCreate, MessageUpdate, MessageDelete, ReactionAdd, ReactionRemove, Typing}
use Rattle.role_member_edit.specs.declared.RoleMemberEdit.{RoleMemberEdit}
use Rattle.role_member_edit.specs.declared.RoleMemberEdit.TheVariants.{RoleCreate, RoleUpdate, RoleDelete, MemberAdd, MemberRemove, MemberNick, MemberTimeout, MemberRoleAdd, MemberRoleRemove}
use Rattle.role_member_edit.specs.declared.role_body.RoleBody.{RoleBody}
use Rattle.role_member_edit.specs.declared.member_add.MemberAdd.{MemberAdd as Adding}
use Rattle.role_member_edit.specs.RoleMember.{role_member_verdict, role_member_applied}
use Rattle.role_member_edit.specs.Roles.{role_taken, role_of, role_created}
use Rattle.role_member_edit.specs.Members.{new_member, member_added, member_removed, with_member_changed, with_nick, with_timeout}
use Rattle.role_member_edit.specs.HeldRoles.{with_role}
use Rattle.guild_model.specs.Changes.{without_role}
use Rattle.channel_edit.specs.declared.ChannelEdit.{ChannelEdit}
use Rattle.channel_edit.specs.declared.ChannelEdit.TheVariants.{ChannelCreate, ChannelUpdate, ChannelDelete, OverwriteSet, OverwriteDelete}
use Rattle.channel_edit.specs.declared.channel_create.ChannelCreate.{ChannelCreate as Creating}
use Rattle.channel_edit.specs.Channels.{new_channel, channel_created, with_settings, with_channel_changed}
use Rattle.channel_edit.specs.ChannelEnd.{orphaned, channel_deleted}
use Rattle.channel_edit.specs.ChannelEdits.{channel_verdict, channel_applied}
use Rattle.channel_edit.specs.OverwriteEdits.{with_overwrite, without_overwrite, overwrite_of, unknown_target, without_room, unknown_overwrite}
use Rattle.edit_apply.specs.declared.guild.GuildEdit.TheVariants.{GuildOpen, GuildRename, GuildOwner, GuildOutage, GuildBack, GuildPrivate}
use Rattle.edit_apply.specs.declared.Edit.{Edit}
use Rattle.edit_apply.specs.declared.Edit.TheVariants as edit
use Rattle.edit_apply.specs.Guilds.{out_of_service}
use Rattle.edit_apply.specs.Edits.{verdict, applied, after_verdict}
use Rattle.mask_cache.specs.declared.mask_change.MaskChange.{MaskChange}
use Rattle.mask_cache.specs.declared.mask_change.MaskChange.TheVariants.{Nothing, All}
use Rattle.mask_cache.specs.Changes.{mask_change, role_member_change, channel_change, roles_change}
use Rattle.mask_cache.specs.Law.{Follows, SameElsewhere, Leaves, OthersStay}

there : (o : Option Member) → is_some o ≡ true → (m : Member) × (o ≡ Some m)
there None e = absurd (cc)
there (Some m) e = (m, refl)

-- of a channel only the overwrites count
abbrev overwrites_in : Channel → Overwrites
overwrites_in c = c.overwrites

still-there : (o p : Option Channel) → option_map overwrites_in p ≡ option_map overwrites_in o → is_some p ≡ is_some o
still-there None None e = refl
still-there None (Some d) e = absurd (cc)
still-there (Some c) None e = absurd (cc)
still-there (Some c) (Some d) e = refl

-- a user that by two records may do the same in the guild, and the same under the same overwrites
module _ (s t : Record) (user : ℕ) (m n : Member) (found : find_id member_id user s.members ≡ Some m) (found' : find_id member_id user t.members ≡ Some n)
    (bases : (b : ℕ) → part_base t.id t.owner t.roles n b ≡ part_base s.id s.owner s.roles m b)
    (granted : (os : Overwrites) (b : ℕ) → part_grants t.id t.owner t.roles n os b ≡ part_grants s.id s.owner s.roles m os b) where
  grants-same : (o p : Option Channel) → option_map overwrites_in p ≡ option_map overwrites_in o → (b : ℕ) → grants_of t (Some n) p b ≡ grants_of s (Some m) o b
  grants-same None None e b = refl
  grants-same None (Some d) e b = absurd (cc)
  grants-same (Some c) None e b = absurd (cc)
  grants-same (Some c) (Some d) e b =
      let os : d.overwrites ≡ c.overwrites = cc in
      ap (λ (os : Overwrites). part_grants t.id t.owner t.roles n os b) os ∙ granted c.overwrites b

  elsewhere : (changed : ℕ → Bool)
      → ((channel : ℕ) → changed channel ≡ false → option_map overwrites_in (find_id channel_id channel t.channels) ≡ option_map overwrites_in (find_id channel_id channel s.channels))
      → SameElsewhere changed s t user
  elsewhere changed same = record {
    base = λ b. ap (λ o. base_of t o b) found' ∙ (bases b ∙ sym (ap (λ o. base_of s o b) found));
    channels = λ channel other. record {
      there = still-there (find_id channel_id channel s.channels) (find_id channel_id channel t.channels) (same channel other);
      grants = λ b. ap (λ o. grants_of t o (find_id channel_id channel t.channels) b) found'
          ∙ (grants-same (find_id channel_id channel s.channels) (find_id channel_id channel t.channels) (same channel other) b
          ∙ sym (ap (λ o. grants_of s o (find_id channel_id channel s.channels) b) found));
    };
  }

-- a record with the same owner, roles, members and channels
record KeepsRights (s t : Record) : Type 0 where
  pub id : t.id ≡ s.id
  pub owner : t.owner ≡ s.owner
  pub roles : t.roles ≡ s.roles
  pub members : t.members ≡ s.members
  pub channels : t.channels ≡ s.channels

module _ (s : Record) (user : ℕ) (is_member : has_id member_id user s.members ≡ true) where
  me : (m : Member) × (find_id member_id user s.members ≡ Some m)
  me = there (find_id member_id user s.members) is_member

  kept : (t : Record) → KeepsRights s t → SameElsewhere (λ id. false) s t user
  kept t k =
      elsewhere s t user me.0 me.0 me.1 (ap (find_id member_id user) k.members ∙ me.1)
      (λ b. rw (k.id, k.owner, k.roles) refl)
      (λ os b. rw (k.id, k.owner, k.roles) refl)
      (λ id. false) (λ channel other. rw k.channels refl)

  -- the channels alone change
  channels-change : (cs : List Channel) → (t : Record) → t.id ≡ s.id → t.owner ≡ s.owner → t.roles ≡ s.roles → t.members ≡ s.members → t.channels ≡ cs → (changed : ℕ → Bool)
      → ((channel : ℕ) → changed channel ≡ false → option_map overwrites_in (find_id channel_id channel cs) ≡ option_map overwrites_in (find_id channel_id channel s.channels))
      → SameElsewhere changed s t user
  channels-change cs t id owner roles members channels changed same =
      elsewhere s t user me.0 me.0 me.1 (ap (find_id member_id user) members ∙ me.1)
      (λ b. rw (id, owner, roles) refl)
      (λ os b. rw (id, owner, roles) refl)
      changed (λ channel other. ap (λ (cs : List Channel). option_map overwrites_in (find_id channel_id channel cs)) channels ∙ same channel other)

  -- the members alone change, and the user's own stays the same user with the same roles
  members-change : (t : Record) → t.id ≡ s.id → t.owner ≡ s.owner → t.roles ≡ s.roles → t.channels ≡ s.channels
      → (n : Member) → find_id member_id user t.members ≡ Some n → n.user.id ≡ me.0.user.id → n.roles ≡ me.0.roles → SameElsewhere (λ id. false) s t user
  members-change t id owner roles channels n found same held =
      elsewhere s t user me.0 n me.1 found
      (λ b. rw (id, owner, roles) (base-member s.id s.owner s.roles me.0 n same held b))
      (λ os b. rw (id, owner, roles) (grants-member s.id s.owner s.roles me.0 n same held os b))
      (λ id. false) (λ channel other. rw channels refl)

  -- what is found of the user's own member after a change of one
  found-changed : (at : ℕ) (f : Member → Member) → ((x : Member) → (f x).user.id ≡ x.user.id) → (b : Bool) → (at == user) ≡ b
      → find_id member_id user (with_member_changed s at f).members ≡ (if b then Some (f me.0) else Some me.0)
  found-changed at f same b is =
      find-changed member_id at f same user s.members
      ∙ (ap (λ own. if own then option_map f (find_id member_id user s.members) else find_id member_id user s.members) is
      ∙ ap (λ o. if b then option_map f o else o) me.1 ∙ by_own b)
    where
      by_own : (b : Bool) → (if b then option_map f (Some me.0) else Some me.0) ≡ (if b then Some (f me.0) else Some me.0)
      by_own true = refl
      by_own false = refl

  member-other : (at : ℕ) (f : Member → Member) → ((x : Member) → (f x).user.id ≡ x.user.id) → (at == user) ≡ false → SameElsewhere (λ id. false) s (with_member_changed s at f) user
  member-other at f same other = members-change (with_member_changed s at f) refl refl refl refl me.0 (found-changed at f same false other) refl refl

  member-changed : (at : ℕ) (f : Member → Member) → ((x : Member) → (f x).user.id ≡ x.user.id) → ((x : Member) → (f x).roles ≡ x.roles)
      → SameElsewhere (λ id. false) s (with_member_changed s at f) user
  member-changed at f same held = by_own (at == user) refl
    where
      by_own : (b : Bool) → (at == user) ≡ b → SameElsewhere (λ id. false) s (with_member_changed s at f) user
      by_own true is = members-change (with_member_changed s at f) refl refl refl refl (f me.0) (found-changed at f same true is) (same me.0) (held me.0)
      by_own false is = member-other at f same is

  roles-changed : (at : ℕ) (f : Member → Member) → ((x : Member) → (f x).user.id ≡ x.user.id) → Leaves (roles_change at user) s (with_member_changed s at f) user
  roles-changed at f same = by_own (at == user) refl
    where
      by_own : (b : Bool) → (at == user) ≡ b → Leaves (if b then All else Nothing) s (with_member_changed s at f) user
      by_own true is = tt
      by_own false is = member-other at f same is

  -- a role that is created is held by nobody yet
  role-created : (body : RoleBody) → IsConsistent s → s.opened ≡ true → has_id role_id body.role s.roles ≡ false → SameElsewhere (λ id. false) s (role_created s body) user
  role-created body well opened new =
      elsewhere s (role_created s body) user me.0 me.0 me.1 me.1
      (base-role s.id s.owner (role_of body) s.roles me.0 not-everyone not-held)
      (grants-role s.id s.owner (role_of body) s.roles me.0 not-everyone not-held)
      (λ id. false) (λ channel other. refl)
    where
      not-everyone : (body.role == s.id) ≡ false
      not-everyone = false_from_ne_true (body.role == s.id) (λ is. let here : body.role ≡ s.id = eqb-true body.role s.id is in let all = well.everyone opened in absurd (cc))

      not-held : has_id own_id body.role me.0.roles ≡ false
      not-held = false_from_ne_true (has_id own_id body.role me.0.roles) (λ held. let has = (well.held user body.role me.0 me.1 held).0 in absurd (cc))

  member-came : (add : Adding) → has_id member_id add.user s.members ≡ false → SameElsewhere (λ id. false) s (member_added s add) user
  member-came add new =
      members-change (member_added s add) refl refl refl refl me.0
      (find-put member_id (new_member add.user add.name add.bot add.at) user s.members
      ∙ (ap (λ here. if here then Some (new_member add.user add.name add.bot add.at) else find_id member_id user s.members) other ∙ me.1)) refl refl
    where
      other : (add.user == user) ≡ false
      other = false_from_ne_true (add.user == user) (λ is. let here : add.user ≡ user = eqb-true add.user user is in absurd (cc))

  member-gone : (gone : ℕ) → has_id member_id user (without_id member_id gone s.members) ≡ true → SameElsewhere (λ id. false) s (member_removed s gone) user
  member-gone gone stays =
      members-change (member_removed s gone) refl refl refl refl me.0
      (find-without member_id gone user s.members
      ∙ (ap (λ here. if here then None else find_id member_id user s.members) (has-left member_id gone user s.members stays).0 ∙ me.1)) refl refl

  role_member : (e : RoleMemberEdit) → ((body : RoleBody) → e ≡ RoleCreate body → IsConsistent s) → s.opened ≡ true → role_member_verdict s e ≡ None → has_id member_id user (role_member_applied s e).members ≡ true
      → Leaves (role_member_change user e) s (role_member_applied s e) user
  role_member (RoleCreate body) well opened accepted stays =
      role-created body (well body refl) opened (not_refused (has_id role_id body.role s.roles) IdTaken
      (first_passes (role_taken s body.role) (too_many 250 (length s.roles) ∷ too_long 100 body.name ∷ []) accepted).0)
  role_member (RoleUpdate body) well opened accepted stays = tt
  role_member (RoleDelete role) well opened accepted stays = tt
  role_member (MemberAdd add) well opened accepted stays =
      member-came add (not_refused (has_id member_id add.user s.members) IdTaken
      (first_passes (refused_if (has_id member_id add.user s.members) IdTaken) (too_many 5000 (length s.members) ∷ too_long 100 add.name ∷ []) accepted).0)
  role_member (MemberRemove gone) well opened accepted stays = member-gone gone stays
  role_member (MemberNick nick) well opened accepted stays = member-changed nick.user (with_nick nick.nick) (λ x. refl) (λ x. refl)
  role_member (MemberTimeout timeout) well opened accepted stays = member-changed timeout.user (with_timeout timeout.until) (λ x. refl) (λ x. refl)
  role_member (MemberRoleAdd held) well opened accepted stays = roles-changed held.user (with_role held.role) (λ x. refl)
  role_member (MemberRoleRemove held) well opened accepted stays = roles-changed held.user (without_role held.role) (λ x. refl)

  -- one channel alone changes, and still exists
  channel-changed : (at : ℕ) (f : Channel → Channel) → ((c : Channel) → (f c).id ≡ c.id) → has_id channel_id at s.channels ≡ true
      → SameElsewhere (λ id. at == id) s (with_channel_changed s at f) user × (has_id channel_id at (with_channel_changed s at f).channels ≡ true)
  channel-changed at f same exists = (
    channels-change (changed_id channel_id at f s.channels) (with_channel_changed s at f) refl refl refl refl refl (λ id. at == id)
        (λ channel other. ap (option_map overwrites_in) (find-changed channel_id at f same channel s.channels
        ∙ ap (λ here. if here then option_map f (find_id channel_id channel s.channels) else find_id channel_id channel s.channels) other)),
    has-changed channel_id at f same at s.channels ∙ exists,
  )

  same-overwrites : (f : Channel → Channel) → ((c : Channel) → (f c).overwrites ≡ c.overwrites) → (o : Option Channel) → option_map overwrites_in (option_map f o) ≡ option_map overwrites_in o
  same-overwrites f overwrites None = refl
  same-overwrites f overwrites (Some c) = ap (λ (os : Overwrites). Some os) (overwrites c)

  -- a change that leaves the overwrites
  channel-updated : (at : ℕ) (f : Channel → Channel) → ((c : Channel) → (f c).id ≡ c.id) → ((c : Channel) → (f c).overwrites ≡ c.overwrites)
      → SameElsewhere (λ id. false) s (with_channel_changed s at f) user
  channel-updated at f same overwrites =
      channels-change (changed_id channel_id at f s.channels) (with_channel_changed s at f) refl refl refl refl refl (λ id. false)
      (λ channel other. ap (option_map overwrites_in) (find-changed channel_id at f same channel s.channels) ∙ by_case channel (at == channel))
    where
      by_case : (channel : ℕ) (here : Bool) → option_map overwrites_in (if here then option_map f (find_id channel_id channel s.channels) else find_id channel_id channel s.channels)
          ≡ option_map overwrites_in (find_id channel_id channel s.channels)
      by_case channel true = same-overwrites f overwrites (find_id channel_id channel s.channels)
      by_case channel false = refl

  channel-came : (create : Creating) → SameElsewhere (λ id. create.channel == id) s (channel_created s create) user × (has_id channel_id create.channel (channel_created s create).channels ≡ true)
  channel-came create = (
    channels-change (put_id channel_id (new_channel s create) s.channels) (channel_created s create) refl refl refl refl refl (λ id. create.channel == id)
        (λ channel other. ap (option_map overwrites_in) (find-put channel_id (new_channel s create) channel s.channels
        ∙ ap (λ here. if here then Some (new_channel s create) else find_id channel_id channel s.channels) other)),
    has-put channel_id (new_channel s create) create.channel s.channels
        ∙ ap (λ here. here || has_id channel_id create.channel s.channels) (eq-eqb create.channel create.channel refl),
  )

  channel-gone : (gone : ℕ) → SameElsewhere (λ id. gone == id) s (channel_deleted s gone) user × (has_id channel_id gone (channel_deleted s gone).channels ≡ false)
  channel-gone gone = (
    channels-change (map (orphaned gone) (without_id channel_id gone s.channels)) (channel_deleted s gone) refl refl refl refl refl (λ id. gone == id)
        (λ channel other. ap (option_map overwrites_in) (find-map channel_id channel_id (orphaned gone) (λ c. refl) channel (without_id channel_id gone s.channels))
        ∙ (same-overwrites (orphaned gone) (λ c. refl) (find_id channel_id channel (without_id channel_id gone s.channels))
        ∙ ap (option_map overwrites_in) (find-without channel_id gone channel s.channels
        ∙ ap (λ here. if here then None else find_id channel_id channel s.channels) other))),
    has-map channel_id (orphaned gone) (λ c. refl) gone (without_id channel_id gone s.channels)
        ∙ (has-without channel_id gone gone s.channels
        ∙ ap (λ here. not here && has_id channel_id gone s.channels) (eq-eqb gone gone refl)),
  )

  channel : (e : ChannelEdit) → channel_verdict s e ≡ None → Leaves (channel_change e) s (channel_applied s e) user
  channel (ChannelCreate create) accepted = channel-came create
  channel (ChannelUpdate update) accepted = channel-updated update.channel (with_settings update) (λ c. refl) (λ c. refl)
  channel (ChannelDelete gone) accepted = channel-gone gone
  channel (OverwriteSet set) accepted =
      channel-changed set.channel (with_overwrite set.kind (overwrite_of set)) (λ c. refl) (passed (has_id channel_id set.channel s.channels) UnknownChannel
      (first_passes (unknown_channel s set.channel) (unknown_target s set.id set.kind ∷ without_room (find_id channel_id set.channel s.channels) set.id set.kind ∷ []) accepted).0)
  channel (OverwriteDelete delete) accepted =
      channel-changed delete.channel (without_overwrite delete.kind delete.id) (λ c. refl) (passed (has_id channel_id delete.channel s.channels) UnknownChannel
      (first_passes (unknown_channel s delete.channel) (unknown_overwrite (find_id channel_id delete.channel s.channels) delete.id delete.kind ∷ []) accepted).0)

-- the edits that leave owner, roles, members and channels
thread-keeps : (s : Record) (e : ThreadEdit) → KeepsRights s (thread_applied s e)
thread-keeps s (ThreadCreate e) = record { id = refl; owner = refl; roles = refl; members = refl; channels = refl }
thread-keeps s (ThreadRename e) = record { id = refl; owner = refl; roles = refl; members = refl; channels = refl }
thread-keeps s (ThreadArchive e) = record { id = refl; owner = refl; roles = refl; members = refl; channels = refl }
thread-keeps s (ThreadUnarchive e) = record { id = refl; owner = refl; roles = refl; members = refl; channels = refl }
thread-keeps s (ThreadDelete e) = record { id = refl; owner = refl; roles = refl; members = refl; channels = refl }
thread-keeps s (ThreadJoin e) = record { id = refl; owner = refl; roles = refl; members = refl; channels = refl }
thread-keeps s (ThreadLeave e) = record { id = refl; owner = refl; roles = refl; members = refl; channels = refl }

voice-keeps : (s : Record) (set : Setting) (channel : Option ℕ) → KeepsRights s (with_voice s set channel)
voice-keeps s set None = record { id = refl; owner = refl; roles = refl; members = refl; channels = refl }
voice-keeps s set (Some channel) = record { id = refl; owner = refl; roles = refl; members = refl; channels = refl }

presence-keeps : (s : Record) (user : ℕ) (shown : Option ShownStatus) → KeepsRights s (with_shown_status s user shown)
presence-keeps s user None = record { id = refl; owner = refl; roles = refl; members = refl; channels = refl }
presence-keeps s user (Some shown) = record { id = refl; owner = refl; roles = refl; members = refl; channels = refl }

written-keeps : (s : Record) (create : Writing) (author : Option User) → KeepsRights s (written_by s create author)
written-keeps s create None = record { id = refl; owner = refl; roles = refl; members = refl; channels = refl }
written-keeps s create (Some author) = record { id = refl; owner = refl; roles = refl; members = refl; channels = refl }

message-keeps : (s : Record) (e : MessageEdit) → KeepsRights s (message_applied s e)
message-keeps s (MessageCreate e) = written-keeps s e (option_map member_user (find_id member_id e.author s.members))
message-keeps s (MessageUpdate e) = record { id = refl; owner = refl; roles = refl; members = refl; channels = refl }
message-keeps s (MessageDelete e) = record { id = refl; owner = refl; roles = refl; members = refl; channels = refl }
message-keeps s (ReactionAdd e) = record { id = refl; owner = refl; roles = refl; members = refl; channels = refl }
message-keeps s (ReactionRemove e) = record { id = refl; owner = refl; roles = refl; members = refl; channels = refl }
message-keeps s (Typing e) = record { id = refl; owner = refl; roles = refl; members = refl; channels = refl }

-- an edit that is accepted, past the tests that all edits have
past : (s : Record) (v : Option Verdict) → first_of (out_of_service s ∷ v ∷ []) ≡ None → v ≡ None
past s v accepted = (first_passes v [] (first_passes (out_of_service s) (v ∷ []) accepted).1).0

leaves : (s : Record) (e : Edit) (user : ℕ) → ((body : RoleBody) → e ≡ edit.RoleMember (RoleCreate body) → IsConsistent s) → s.opened ≡ true → verdict s e ≡ None → has_id member_id user s.members ≡ true → has_id member_id user (applied s e).members ≡ true
    → Leaves (mask_change user e) s (applied s e) user
leaves s (edit.Guild (GuildOpen opens)) user well opened accepted own stays = tt
leaves s (edit.Guild (GuildRename name)) user well opened accepted own stays = kept s user own (record s { name = name }) (record { id = refl; owner = refl; roles = refl; members = refl; channels = refl })
leaves s (edit.Guild (GuildOwner owner)) user well opened accepted own stays = tt
leaves s (edit.Guild GuildOutage) user well opened accepted own stays = kept s user own (record s { outage = true }) (record { id = refl; owner = refl; roles = refl; members = refl; channels = refl })
leaves s (edit.Guild GuildBack) user well opened accepted own stays = kept s user own (record s { outage = false }) (record { id = refl; owner = refl; roles = refl; members = refl; channels = refl })
leaves s (edit.Guild (GuildPrivate private)) user well opened accepted own stays = kept s user own (record s { private = private }) (record { id = refl; owner = refl; roles = refl; members = refl; channels = refl })
leaves s (edit.RoleMember e) user well opened accepted own stays = role_member s user own e (λ body is. well body (ap (λ (e : RoleMemberEdit). edit.RoleMember e) is)) opened (past s (role_member_verdict s e) accepted) stays
leaves s (edit.Channel e) user well opened accepted own stays = channel s user own e (past s (channel_verdict s e) accepted)
leaves s (edit.Thread e) user well opened accepted own stays = kept s user own (thread_applied s e) (thread-keeps s e)
leaves s (edit.VoicePresence (VoiceSet set)) user well opened accepted own stays = kept s user own (with_voice s set set.channel) (voice-keeps s set set.channel)
leaves s (edit.VoicePresence (PresenceSet set)) user well opened accepted own stays = kept s user own (with_shown_status s set.user (status_shown set.status)) (presence-keeps s set.user (status_shown set.status))
leaves s (edit.Message e) user well opened accepted own stays = kept s user own (message_applied s e) (message-keeps s e)

pub others_stay : OthersStay
others_stay s e t user follows =
    let is : t ≡ applied s e = follows.after ∙ ap (λ v. after_verdict v s e) follows.accepted in
    let stays : has_id member_id user (applied s e).members ≡ true = subst (λ (t : Record). has_id member_id user t.members ≡ true) is follows.is_member in
    subst (λ (t : Record). Leaves (mask_change user e) s t user) (sym is) (leaves s e user follows.consistent follows.opened follows.accepted follows.was_member stays)

-- by the masks that the edit was found to change
pub left : (s : Record) (e : Edit) (t : Record) (user : ℕ) (change : MaskChange) → mask_change user e ≡ change → Follows s e t user → Leaves change s t user
left s e t user change is follows = subst (λ (c : MaskChange). Leaves c s t user) is (others_stay s e t user follows)
