-- Each list of a record ascends by id, but messages stand in order of arrival; no id stands twice in one.
use Rattle.std.specs.Prelude.{All}
use Rattle.collections.specs.ById.{IsById}
use Rattle.guild_model.specs.declared.member.Member.{Member}
use Rattle.guild_model.specs.declared.channel.Channel.{Channel}
use Rattle.guild_model.specs.declared.thread.Thread.{Thread}
use Rattle.guild_model.specs.Record.{Record, own_id, role_id, member_id, overwrite_id, channel_id, thread_id, thread_member_id, voice_id, presence_id}
use Rattle.guild_model.specs.Heads.{AreRecent}
use Rattle.guild_model.specs.Consistent.{IsConsistent}

pub record HasOrderedOverwrites (c : Channel) : Type 0 where
  pub roles : IsById overwrite_id c.overwrites.roles
  pub members : IsById overwrite_id c.overwrites.members

abbrev pub HoldsInOrder : Member → Type 0
HoldsInOrder m = IsById own_id m.roles

abbrev pub HasInOrder : Thread → Type 0
HasInOrder t = IsById thread_member_id t.members

pub record IsAscending (g : Record) : Type 0 where
  pub roles : IsById role_id g.roles
  pub members : IsById member_id g.members
  pub channels : IsById channel_id g.channels
  pub threads : IsById thread_id g.threads
  pub voices : IsById voice_id g.voices
  pub presences : IsById presence_id g.presences
  pub held : All HoldsInOrder g.members
  pub overwrites : All HasOrderedOverwrites g.channels
  pub joined : All HasInOrder g.threads
  pub messages : AreRecent g.messages

-- what holds of every record that edits make
pub record IsWell (g : Record) : Type 0 where
  pub ascending : IsAscending g
  pub consistent : IsConsistent g
