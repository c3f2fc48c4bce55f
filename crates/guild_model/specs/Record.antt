-- The record of a guild (Guild Resource, Guild Object), and the ids of its parts. That a guild withholds channels
-- from those who do not see them is this server's own.
use Rattle.std.specs.Prelude.{ℕ, List, [], Bool, false, ◌==◌}
use Rattle.guild_model.specs.declared.role.Role.{Role}
use Rattle.guild_model.specs.declared.member.Member.{Member}
use Rattle.guild_model.specs.declared.channel.Channel.{Channel}
use Rattle.guild_model.specs.declared.channel.Overwrite.{Overwrite}
use Rattle.guild_model.specs.declared.thread.Thread.{Thread}
use Rattle.guild_model.specs.declared.thread.ThreadMember.{ThreadMember}
use Rattle.guild_model.specs.declared.voice.Voice.{Voice}
use Rattle.guild_model.specs.declared.presence.Presence.{Presence}
use Rattle.guild_model.specs.declared.message.MessageHead.{MessageHead}

pub record Record : Type 0 where
  pub id : ℕ
  pub opened : Bool
  pub outage : Bool
  pub private : Bool
  pub name : List ℕ
  pub owner : ℕ
  pub roles : List Role
  pub members : List Member
  pub channels : List Channel
  pub threads : List Thread
  pub voices : List Voice
  pub presences : List Presence
  pub messages : List MessageHead

abbrev pub own_id : ℕ → ℕ
own_id id = id

abbrev pub role_id : Role → ℕ
role_id r = r.id

abbrev pub member_id : Member → ℕ
member_id m = m.user.id

abbrev pub overwrite_id : Overwrite → ℕ
overwrite_id o = o.id

abbrev pub channel_id : Channel → ℕ
channel_id c = c.id

abbrev pub thread_id : Thread → ℕ
thread_id t = t.id

abbrev pub thread_member_id : ThreadMember → ℕ
thread_member_id m = m.user

abbrev pub voice_id : Voice → ℕ
voice_id v = v.user

-- a voice state is in a channel
abbrev pub speaks_in : ℕ → Voice → Bool
speaks_in channel v = v.channel == channel

abbrev pub presence_id : Presence → ℕ
presence_id p = p.user

-- the record of a guild to which nothing has happened
abbrev pub closed : ℕ → Record
closed id = record {
  id = id;
  opened = false;
  outage = false;
  private = false;
  name = [];
  owner = 0;
  roles = [];
  members = [];
  channels = [];
  threads = [];
  voices = [];
  presences = [];
  messages = [];
}
