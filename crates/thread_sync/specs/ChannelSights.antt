-- What a member is granted in a channel, as far as sight goes (Permissions, VIEW_CHANNEL,
-- MANAGE_THREADS): worked out once a channel, and gone by for each thread.
use Rattle.std.specs.Prelude.{ℕ, List, map, filter, Bool, false, not, ◌&&◌, ◌||◌, ◌==◌}
use Rattle.std.specs.Option.{option_map_or}
use Rattle.collections.specs.ById.{find_id, has_id}
use Rattle.perm_bits.specs.Permissions.{manage_threads}
use Rattle.guild_model.specs.declared.channel.Channel.{Channel}
use Rattle.guild_model.specs.declared.member.Member.{Member}
use Rattle.guild_model.specs.declared.thread.Thread.{Thread}
use Rattle.guild_model.specs.Record.{Record}
use Rattle.guild_model.specs.Sight.{Standing, standing, granted, sees, is_private, is_in}
use Rattle.dispatch_types.specs.Projection.{is_active}
use Rattle.thread_sync.specs.declared.channel_sight.ChannelSight.{ChannelSight}
use Rattle.thread_sync.specs.Shown.{Shown}

abbrev pub sight_in : Standing → ℕ → ℕ → ChannelSight
sight_in s user channel = record {
  channel = channel;
  user = user;
  views = sees s channel;
  manages = granted s channel manage_threads;
}

abbrev pub sight_of : Record → Member → ℕ → ChannelSight
sight_of s me channel = sight_in (standing s me) me.user.id channel

abbrev pub sight_id : ChannelSight → ℕ
sight_id l = l.channel

abbrev pub is_seen : ChannelSight → Bool
is_seen l = l.views

-- an active thread of the channel that is seen
abbrev pub shows_under : ChannelSight → Thread → Bool
shows_under l t =
    l.views
    && (t.parent == l.channel && (is_active t && (not (is_private t.kind) || l.manages || is_in l.user t)))

-- what is shown by the sight of one channel: the channel itself, and threads in it
abbrev pub by_sight : ChannelSight → Shown
by_sight l = record { channel = λ (id : ℕ). l.views && (l.channel == id); thread = shows_under l }

-- of the channels that are seen
abbrev pub seen_in : Standing → ℕ → List Channel → List ChannelSight
seen_in s user channels = filter is_seen (map (λ (c : Channel). sight_in s user c.id) channels)

abbrev pub sights : Standing → List ChannelSight
sights s = seen_in s s.me.user.id s.channels

abbrev pub is_in_sight : List ChannelSight → ℕ → Bool
is_in_sight ls channel = has_id sight_id channel ls

abbrev pub shows_among : List ChannelSight → Thread → Bool
shows_among ls t =
    is_active t && option_map_or (λ (l : ChannelSight). shows_under l t) (find_id sight_id t.parent ls) false

-- what is shown by the sights of the channels that are seen
abbrev pub by_sights : List ChannelSight → Shown
by_sights ls = record { channel = is_in_sight ls; thread = shows_among ls }

-- a sight that shows all that another one of the same channel does
abbrev pub covers : ChannelSight → ChannelSight → Bool
covers l other = l.views && (l.user == other.user && (l.manages || not other.manages))

-- a sight that may show what was not shown before: only the threads of such a channel have to be looked at
abbrev pub is_grown : List ChannelSight → ChannelSight → Bool
is_grown before l =
    not (option_map_or (λ (was : ChannelSight). covers was l) (find_id sight_id l.channel before) false)
