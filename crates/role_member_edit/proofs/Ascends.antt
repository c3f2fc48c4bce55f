-- The lists of a record still ascend after each edit of roles and members.
use Rattle.std.proofs.Common.{◌≡◌, ℕ, not, List, Option, refl}
use Rattle.std.specs.Prelude.{◌==◌}
use Rattle.std.proofs.lemmas.List.Elements.{All-filter, All-map, All-weaker}
use Rattle.collections.proofs.Ids.{IsById-put, IsById-changed}
use Rattle.collections.proofs.Finds.{IsById-map, IsById-without}
use Rattle.collections.proofs.Has.{All-put, All-changed}
use Rattle.guild_model.specs.declared.role.Role.{Role}
use Rattle.guild_model.specs.declared.member.Member.{Member}
use Rattle.guild_model.specs.declared.channel.Channel.{Channel}
use Rattle.guild_model.specs.Record.{Record, own_id, role_id, member_id, overwrite_id, channel_id, thread_id, thread_member_id, voice_id, presence_id}
use Rattle.guild_model.specs.Ascending.{IsAscending, HasOrderedOverwrites, HasInOrder, HoldsInOrder}
use Rattle.guild_model.specs.Changes.{without_role, without_role_overwrite}
use Rattle.role_member_edit.specs.declared.member_add.MemberAdd.{MemberAdd}
use Rattle.role_member_edit.specs.Roles.{with_role_set, role_deleted}
use Rattle.role_member_edit.specs.Members.{new_member, member_added, without_user, member_removed, with_member_changed, with_nick, with_timeout}
use Rattle.role_member_edit.specs.HeldRoles.{with_role}

module _ (g : Record) (a : IsAscending g) where
  pub role_set : (r : Role) → IsAscending (with_role_set g r)
  role_set r = record {
    roles = IsById-put role_id r g.roles a.roles;
    members = a.members;
    channels = a.channels;
    threads = a.threads;
    voices = a.voices;
    presences = a.presences;
    held = a.held;
    overwrites = a.overwrites;
    joined = a.joined;
    messages = a.messages;
  }

  ordered_left : (role : ℕ) (c : Channel) → HasOrderedOverwrites c → HasOrderedOverwrites (without_role_overwrite role c)
  ordered_left role c o = record { roles = IsById-without overwrite_id role c.overwrites.roles o.roles; members = o.members }

  pub role_gone : (role : ℕ) → IsAscending (role_deleted g role)
  role_gone role = record {
    roles = IsById-without role_id role g.roles a.roles;
    members = IsById-map member_id member_id (without_role role) (λ m. refl) g.members a.members;
    channels = IsById-map channel_id channel_id (without_role_overwrite role) (λ c. refl) g.channels a.channels;
    threads = a.threads;
    voices = a.voices;
    presences = a.presences;
    held = All-map HoldsInOrder (without_role role) g.members
        (All-weaker HoldsInOrder (λ m. HoldsInOrder (without_role role m)) (λ m h. IsById-without own_id role m.roles h) g.members a.held);
    overwrites = All-map HasOrderedOverwrites (without_role_overwrite role) g.channels
        (All-weaker HasOrderedOverwrites (λ c. HasOrderedOverwrites (without_role_overwrite role c)) (ordered_left role) g.channels a.overwrites);
    joined = a.joined;
    messages = a.messages;
  }

  pub added : (edit : MemberAdd) → IsAscending (member_added g edit)
  added edit = record {
    roles = a.roles;
    members = IsById-put member_id (new_member edit.user edit.name edit.bot edit.at) g.members a.members;
    channels = a.channels;
    threads = a.threads;
    voices = a.voices;
    presences = a.presences;
    held = All-put member_id HoldsInOrder (new_member edit.user edit.name edit.bot edit.at) g.members tt a.held;
    overwrites = a.overwrites;
    joined = a.joined;
    messages = a.messages;
  }

  pub member_gone : (user : ℕ) → IsAscending (member_removed g user)
  member_gone user = record {
    roles = a.roles;
    members = IsById-without member_id user g.members a.members;
    channels = a.channels;
    threads = IsById-map thread_id thread_id (without_user user) (λ t. refl) g.threads a.threads;
    voices = IsById-without voice_id user g.voices a.voices;
    presences = IsById-without presence_id user g.presences a.presences;
    held = All-filter (λ m. not (member_id m == user)) HoldsInOrder g.members a.held;
    overwrites = a.overwrites;
    joined = All-map HasInOrder (without_user user) g.threads
        (All-weaker HasInOrder (λ t. HasInOrder (without_user user t)) (λ t h. IsById-without thread_member_id user t.members h) g.threads a.joined);
    messages = a.messages;
  }

  pub member_changed : (at : ℕ) (f : Member → Member) → ((m : Member) → member_id (f m) ≡ member_id m) → ((m : Member) → HoldsInOrder m → HoldsInOrder (f m)) → IsAscending (with_member_changed g at f)
  member_changed at f same keeps = record {
    roles = a.roles;
    members = IsById-changed member_id at f g.members same a.members;
    channels = a.channels;
    threads = a.threads;
    voices = a.voices;
    presences = a.presences;
    held = All-changed member_id HoldsInOrder at f g.members keeps a.held;
    overwrites = a.overwrites;
    joined = a.joined;
    messages = a.messages;
  }

  pub nicked : (user : ℕ) (nick : Option (List ℕ)) → IsAscending (with_member_changed g user (with_nick nick))
  nicked user nick = member_changed user (with_nick nick) (λ m. refl) (λ m h. h)

  pub timed_out : (user : ℕ) (until : Option ℕ) → IsAscending (with_member_changed g user (with_timeout until))
  timed_out user until = member_changed user (with_timeout until) (λ m. refl) (λ m h. h)

  pub given : (user role : ℕ) → IsAscending (with_member_changed g user (with_role role))
  given user role = member_changed user (with_role role) (λ m. refl) (λ m h. IsById-put own_id role m.roles h)

  pub taken : (user role : ℕ) → IsAscending (with_member_changed g user (without_role role))
  taken user role = member_changed user (without_role role) (λ m. refl) (λ m h. IsById-without own_id role m.roles h)
