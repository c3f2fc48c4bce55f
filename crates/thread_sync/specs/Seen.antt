-- What a user sees of a guild, as lists: the channels, and the active threads.
use Rattle.std.specs.Prelude.{ℕ, List, [], map, filter, Bool, Option, Some, None}
use Rattle.collections.specs.ById.{find_id, has_id}
use Rattle.guild_model.specs.declared.member.Member.{Member}
use Rattle.guild_model.specs.declared.channel.Channel.{Channel}
use Rattle.guild_model.specs.declared.thread.Thread.{Thread}
use Rattle.guild_model.specs.Record.{Record, own_id, member_id, channel_id, thread_id}
use Rattle.guild_model.specs.Sight.{Standing, standing, sees}
use Rattle.dispatch_types.specs.Projection.{seen_threads}
use Rattle.thread_sync.specs.declared.seen.Seen.{Seen}
use Rattle.thread_sync.specs.Shown.{Shown}

-- one of these ids
abbrev pub is_among : List ℕ → ℕ → Bool
is_among ids id = has_id own_id id ids

-- what is shown by such lists
abbrev pub by_lists : Seen → Shown
by_lists was = record {
  channel = λ (id : ℕ). is_among was.channels id;
  thread = λ (t : Thread). is_among was.threads t.id;
}

-- a channel that is seen
abbrev pub shows_channel : Standing → Channel → Bool
shows_channel s c = sees s c.id

abbrev pub visible_to : Record → Member → Seen
visible_to s me = record {
  channels = map channel_id (filter (shows_channel (standing s me)) s.channels);
  threads = map thread_id (seen_threads s me);
}

abbrev pub visible_of : Record → Option Member → Seen
visible_of s None = record { channels = []; threads = [] }
visible_of s (Some me) = visible_to s me

-- a user that is no member sees nothing
abbrev pub visible : Record → ℕ → Seen
visible s user = visible_of s (find_id member_id user s.members)
