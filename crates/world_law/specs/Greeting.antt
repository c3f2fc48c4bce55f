-- READY, and the guilds that follow it (Gateway Events, Ready and Guild Create).
use Rattle.std.specs.Prelude.{ℕ, List, [], ◌∷◌, true, not, ◌&&◌, Option, Some, None, if◌then◌else◌, map, filter, flat_map}
use Rattle.perm_bits.specs.Bits.{has_bit}
use Rattle.intent_set.specs.Intents.{guilds}
use Rattle.guild_model.specs.Record.{Record}
use Rattle.guild_model.specs.declared.member.Member.{Member}
use Rattle.dispatch_types.specs.declared.viewer.Viewer.{Viewer}
use Rattle.dispatch_types.specs.declared.ready.Ready.{Ready as Greeted}
use Rattle.dispatch_types.specs.declared.dispatch.Dispatch.{Dispatch}
use Rattle.dispatch_types.specs.declared.dispatch.Dispatch.TheVariants.{Ready, GuildCreate}
use Rattle.dispatch_types.specs.Serves.{served, serves}
use Rattle.edit_events.specs.Greeting.{greeting}
use Rattle.session_core.specs.declared.bot.Bot.{Bot}
use Rattle.session_core.specs.Resume.{session_id}
use Rattle.world_law.specs.Keeping.{Keeping, Machine, record_id}

-- a guild in which the viewer is a member, if it is available
abbrev pub greeting_for : Viewer → Record → Option Member → List Dispatch
greeting_for viewer s None = []
greeting_for viewer s (Some me) = if has_bit viewer.intents guilds && not s.outage then GuildCreate (greeting s viewer me) ∷ [] else []

abbrev pub greeting_of : Viewer → Record → List Dispatch
greeting_of viewer s = greeting_for viewer s (served viewer s)

-- the guilds that READY lists
abbrev pub listed_guilds : Viewer → List Record → List ℕ
listed_guilds viewer records = if has_bit viewer.intents guilds then map record_id (filter (λ s. serves viewer s) records) else []

module _ {A R : Type 0} (keeping : Keeping A R) (w : Machine A R) (viewer : Viewer) where
  -- READY, for the bot of this name, in the session of this number
  abbrev pub ready : (name : List ℕ) → ℕ → Greeted
  ready name n = record {
    user = record { id = viewer.user; name = name; bot = true };
    guilds = listed_guilds viewer (keeping.records w.logs);
    session = session_id w.core.worker n;
    url = w.url;
    shard = viewer.shard;
  }

  -- a session's first dispatches
  abbrev pub first_dispatches : (name : List ℕ) → ℕ → List Dispatch
  first_dispatches name n = Ready (ready name n) ∷ flat_map (greeting_of viewer) (keeping.records w.logs)

module _ {A R : Type 0} (keeping : Keeping A R) where
  -- what a session of a number begins with
  abbrev pub begins_with : Machine A R → Bot → Viewer → ℕ → A
  begins_with w bot viewer n = keeping.begins bot (keeping.cursors w.logs) (first_dispatches keeping w viewer bot.name n)
