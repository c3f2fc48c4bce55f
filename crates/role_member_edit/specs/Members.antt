-- Members that are added, changed and removed (Guild Resource, Guild Member Object).
use Rattle.std.specs.Prelude.{ℕ, ◌==◌, length, List, [], ◌∷◌, map, Bool, Option, Some, None}
use Rattle.collections.specs.ById.{put_id, without_id, changed_id, has_id}
use Rattle.guild_model.specs.declared.member.Member.{Member}
use Rattle.guild_model.specs.declared.thread.Thread.{Thread}
use Rattle.guild_model.specs.declared.verdict.Verdict.{Verdict}
use Rattle.guild_model.specs.declared.verdict.Verdict.TheVariants.{IdTaken, OwnerStays}
use Rattle.guild_model.specs.Record.{Record, member_id, thread_member_id, voice_id, presence_id}
use Rattle.guild_model.specs.Tests.{refused_if, first_of, too_long, too_many, unknown_member}
use Rattle.role_member_edit.specs.declared.member_add.MemberAdd.{MemberAdd}
use Rattle.role_member_edit.specs.declared.member_nick.MemberNick.{MemberNick}
use Rattle.role_member_edit.specs.declared.member_timeout.MemberTimeout.{MemberTimeout}

-- member_add: a member without roles
abbrev pub member_add_verdict : Record → MemberAdd → Option Verdict
member_add_verdict g edit = first_of (
    refused_if (has_id member_id edit.user g.members) IdTaken
    ∷ too_many 5000 (length g.members)
    ∷ too_long 100 edit.name
    ∷ [])

abbrev pub new_member : ℕ → List ℕ → Bool → ℕ → Member
new_member user name bot at = record {
  user = record { id = user; name = name; bot = bot };
  nick = None;
  roles = [];
  joined = at;
  timeout = None;
}

abbrev pub member_added : Record → MemberAdd → Record
member_added g edit = record g {
  members = put_id member_id (new_member edit.user edit.name edit.bot edit.at) g.members;
}

-- member_remove: the user is removed from all lists but the overwrites
abbrev pub owner_stays : Record → ℕ → Option Verdict
owner_stays g user = refused_if (user == g.owner) OwnerStays

abbrev pub member_remove_verdict : Record → ℕ → Option Verdict
member_remove_verdict g user = first_of (unknown_member g user ∷ owner_stays g user ∷ [])

abbrev pub without_user : ℕ → Thread → Thread
without_user user t = record t { members = without_id thread_member_id user t.members }

abbrev pub member_removed : Record → ℕ → Record
member_removed g user = record g {
  members = without_id member_id user g.members;
  threads = map (without_user user) g.threads;
  voices = without_id voice_id user g.voices;
  presences = without_id presence_id user g.presences;
}

abbrev pub with_member_changed : Record → ℕ → (Member → Member) → Record
with_member_changed g user change = record g { members = changed_id member_id user change g.members }

-- member_nick
abbrev pub nick_verdict : Option (List ℕ) → Option Verdict
nick_verdict None = None
nick_verdict (Some nick) = too_long 32 nick

abbrev pub member_nick_verdict : Record → MemberNick → Option Verdict
member_nick_verdict g edit = first_of (unknown_member g edit.user ∷ nick_verdict edit.nick ∷ [])

abbrev pub with_nick : Option (List ℕ) → Member → Member
with_nick nick m = record m { nick = nick }

abbrev pub member_nicked : Record → MemberNick → Record
member_nicked g edit = with_member_changed g edit.user (with_nick edit.nick)

-- member_timeout
abbrev pub member_timeout_verdict : Record → MemberTimeout → Option Verdict
member_timeout_verdict g edit = unknown_member g edit.user

abbrev pub with_timeout : Option ℕ → Member → Member
with_timeout until m = record m { timeout = until }

abbrev pub member_timed_out : Record → MemberTimeout → Record
member_timed_out g edit = with_member_changed g edit.user (with_timeout edit.until)
