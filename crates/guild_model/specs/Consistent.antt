-- What holds between the lists of a record.
use Rattle.std.specs.Prelude.{◌≡◌, ℕ, ◌==◌, Bool, true, false, ◌||◌, Option, Some, None, All}
use Rattle.collections.specs.ById.{find_id, has_id}
use Rattle.guild_model.specs.declared.member.Member.{Member}
use Rattle.guild_model.specs.declared.channel.Channel.{Channel}
use Rattle.guild_model.specs.declared.channel.ChannelKind.{ChannelKind}
use Rattle.guild_model.specs.declared.channel.ChannelKind.TheVariants as channel
use Rattle.guild_model.specs.declared.thread.Thread.{Thread}
use Rattle.guild_model.specs.declared.voice.Voice.{Voice}
use Rattle.guild_model.specs.declared.message.MessageHead.{MessageHead}
use Rattle.guild_model.specs.Record.{Record, closed, own_id, role_id, member_id, overwrite_id, channel_id, thread_id, thread_member_id, voice_id, presence_id}

-- threads stand in channels of these types (Threads, Thread Fields)
abbrev pub has_threads : ChannelKind → Bool
has_threads channel.Text = true
has_threads channel.Announcement = true
has_threads channel.Forum = true
has_threads channel.Voice = false
has_threads channel.Category = false
has_threads channel.Stage = false

abbrev pub is_parent : Option Channel → Bool
is_parent None = false
is_parent (Some c) = has_threads c.kind

-- a channel or a thread of the guild
abbrev pub is_channel_or_thread : Record → ℕ → Bool
is_channel_or_thread g id = has_id channel_id id g.channels || has_id thread_id id g.threads

pub record IsConsistent (g : Record) : Type 0 where
  pub empty : g.opened ≡ false → g ≡ closed g.id
  pub everyone : g.opened ≡ true → has_id role_id g.id g.roles ≡ true
  pub owner : g.opened ≡ true → has_id member_id g.owner g.members ≡ true
  pub held : (user role : ℕ) (m : Member) → find_id member_id user g.members ≡ Some m → has_id own_id role m.roles ≡ true
      → (has_id role_id role g.roles ≡ true) × ((role == g.id) ≡ false)
  pub overwritten : (channel role : ℕ) (c : Channel) → find_id channel_id channel g.channels ≡ Some c
      → has_id overwrite_id role c.overwrites.roles ≡ true → has_id role_id role g.roles ≡ true
  pub voices : (user : ℕ) (v : Voice) → find_id voice_id user g.voices ≡ Some v
      → (has_id member_id user g.members ≡ true) × (has_id channel_id v.channel g.channels ≡ true)
  pub presences : (user : ℕ) → has_id presence_id user g.presences ≡ true → has_id member_id user g.members ≡ true
  pub parents : (thread : ℕ) (t : Thread) → find_id thread_id thread g.threads ≡ Some t → is_parent (find_id channel_id t.parent g.channels) ≡ true
  pub joined : (thread user : ℕ) (t : Thread) → find_id thread_id thread g.threads ≡ Some t → has_id thread_member_id user t.members ≡ true
      → has_id member_id user g.members ≡ true
  pub apart : (id : ℕ) → has_id channel_id id g.channels ≡ true → has_id thread_id id g.threads ≡ false
  pub message_channels : All (λ (h : MessageHead). is_channel_or_thread g h.channel ≡ true) g.messages
