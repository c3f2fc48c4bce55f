-- What a viewer may hold of a guild, from scratch (Gateway Events, Guild Create; Gateway, Gateway Intents). Of a guild
-- that withholds channels it holds what its member is shown; that is this server's own.
use Rattle.std.specs.Prelude.{ℕ, List, [], map, filter, min, length, Bool, not, ◌&&◌, Option, Some, None, if◌then◌else◌}
use Rattle.collections.specs.ById.{find_id, has_id}
use Rattle.perm_bits.specs.Bits.{has_bit}
use Rattle.intent_set.specs.Intents.{guilds, guild_members, guild_voice_states, guild_presences}
use Rattle.guild_model.specs.declared.member.Member.{Member}
use Rattle.guild_model.specs.declared.thread.Thread.{Thread}
use Rattle.guild_model.specs.Record.{Record, own_id, thread_member_id}
use Rattle.guild_model.specs.Sight.{member_sees}
use Rattle.guild_model.specs.Shown.{shown_part}
use Rattle.dispatch_types.specs.declared.viewer.Viewer.{Viewer}
use Rattle.dispatch_types.specs.declared.view.GuildView.{GuildView}
use Rattle.dispatch_types.specs.declared.view.GuildView.TheVariants.{Unavailable, Open}
use Rattle.dispatch_types.specs.declared.view.OpenView.{OpenView}
use Rattle.dispatch_types.specs.declared.view.ThreadView.{ThreadView}
use Rattle.dispatch_types.specs.Serves.{served}

-- what only an intent tells
abbrev pub told : {T : Type 0} → ℕ → ℕ → T → Option T
told intents bit x = if has_bit intents bit then Some x else None

abbrev pub listed : {T : Type 0} → ℕ → ℕ → List T → List T
listed intents bit xs = if has_bit intents bit then xs else []

abbrev pub is_active : Thread → Bool
is_active t = not t.archived

abbrev pub thread_view : ℕ → ℕ → Thread → ThreadView
thread_view intents user t = record {
  id = t.id;
  kind = t.kind;
  name = t.name;
  owner = t.owner;
  parent = t.parent;
  mine = find_id thread_member_id user t.members;
  count = told intents guild_members (min 50 (length t.members));
}

-- the active threads that the viewer's member sees
abbrev pub seen_threads : Record → Member → List Thread
seen_threads s me = filter (λ (t : Thread). is_active t && member_sees s me t) s.threads

abbrev pub is_known : List ℕ → Member → Bool
is_known known m = has_id own_id m.user.id known

-- the guild, by the viewer's intents
abbrev pub open_view : Record → ℕ → List ℕ → Member → OpenView
open_view s intents known me = record {
  name = s.name;
  owner = s.owner;
  roles = s.roles;
  channels = s.channels;
  me = me;
  members = listed intents guild_members (filter (is_known known) s.members);
  member_count = told intents guild_members (length s.members);
  threads = map (thread_view intents me.user.id) (seen_threads s me);
  voices = listed intents guild_voice_states s.voices;
  presences = listed intents guild_presences s.presences;
}

-- what a member is shown of it
abbrev pub shown_view : Record → ℕ → List ℕ → Member → OpenView
shown_view s intents known me = open_view (shown_part s me) intents known me

abbrev pub view_as : Record → ℕ → List ℕ → Option Member → Option GuildView
view_as s intents known None = None
view_as s intents known (Some me) = Some (if s.outage then Unavailable else Open (shown_view s intents known me))

-- nothing without GUILDS, or where the viewer is not served; of an outage no more than that
unfoldable pub projection : Record → Viewer → List ℕ → Option GuildView
projection s v known = if has_bit v.intents guilds then view_as s v.intents known (served v s) else None
