-- A channel that is deleted (Channels Resource, Delete/Close Channel).
use Rattle.std.specs.Prelude.{ℕ, List, Bool, false, not, ◌||◌, ◌==◌, map, filter, Option, Some, None}
use Rattle.collections.specs.ById.{find_id, without_id, keep_if}
use Rattle.guild_model.specs.declared.channel.Channel.{Channel}
use Rattle.guild_model.specs.declared.thread.Thread.{Thread}
use Rattle.guild_model.specs.declared.voice.Voice.{Voice}
use Rattle.guild_model.specs.declared.message.MessageHead.{MessageHead}
use Rattle.guild_model.specs.declared.verdict.Verdict.{Verdict}
use Rattle.guild_model.specs.Record.{Record, channel_id, thread_id, speaks_in}
use Rattle.guild_model.specs.Tests.{unknown_channel}

abbrev pub channel_delete_verdict : Record → ℕ → Option Verdict
channel_delete_verdict g channel = unknown_channel g channel

-- a child of the deleted channel has no parent after that
abbrev pub orphaned : ℕ → Channel → Channel
orphaned channel c = record c { parent = keep_if (λ parent. not (parent == channel)) c.parent }

abbrev pub is_outside : ℕ → Thread → Bool
is_outside channel t = not (t.parent == channel)

abbrev pub speaks_outside : ℕ → Voice → Bool
speaks_outside channel v = not (speaks_in channel v)

abbrev pub is_in_channel : ℕ → Option Thread → Bool
is_in_channel channel None = false
is_in_channel channel (Some t) = t.parent == channel

-- the id of the channel or of one of its threads
abbrev pub is_within : List Thread → ℕ → ℕ → Bool
is_within threads channel id = (id == channel) || is_in_channel channel (find_id thread_id id threads)

abbrev pub stands_outside : List Thread → ℕ → MessageHead → Bool
stands_outside threads channel m = not (is_within threads channel m.channel)

-- a message that stands in none of the channel's threads
abbrev pub stands_in_no_thread : List Thread → ℕ → MessageHead → Bool
stands_in_no_thread threads channel m = not (is_in_channel channel (find_id thread_id m.channel threads))

-- its threads, the voice states in it and the messages in it and in its threads are deleted with it
abbrev pub channel_deleted : Record → ℕ → Record
channel_deleted g channel = record g {
  channels = map (orphaned channel) (without_id channel_id channel g.channels);
  threads = filter (is_outside channel) g.threads;
  voices = filter (speaks_outside channel) g.voices;
  messages = filter (stands_outside g.threads channel) g.messages;
}
