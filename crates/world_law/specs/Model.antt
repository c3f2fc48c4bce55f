-- The worker of the model: it keeps every entry that it has handled, and every dispatch that it has made.
use Rattle.std.specs.Prelude.{ℕ, List, [], ◌∷◌, ◌++◌, ◌==◌, None, if◌then◌else◌, length, map}
use Rattle.collections.specs.ById.{put_all}
use Rattle.guild_model.specs.Record.{Record, own_id}
use Rattle.dispatch_types.specs.declared.dispatch.Dispatch.{Dispatch}
use Rattle.edit_apply.specs.Edits.{state}
use Rattle.edit_apply.specs.declared.Edit.{Edit}
use Rattle.replay_ring.specs.Replay.{Replay, replay_of}
use Rattle.session_core.specs.declared.bot.Bot.{Bot}
use Rattle.session_core.specs.declared.reply.Mark.TheVariants.{Start}
use Rattle.session_core.specs.State.{no_sessions}
use Rattle.world_law.specs.Keeping.{Cursors, Keeping, Machine}
use Rattle.world_law.specs.Outputs.{texts_from}
use Rattle.world_law.specs.Sent.{told, chunks_told, Sent, dispatches, ended_at}

-- the entries of each guild's log that were handled
abbrev pub Seen : Type 0
Seen = ℕ → List Edit

-- how many they are
abbrev pub cursors : Seen → Cursors
cursors seen g = length (seen g)

-- one more entry
abbrev pub seen_with : Seen → ℕ → Edit → Seen
seen_with seen g e h = if g == h then seen h ++ e ∷ [] else seen h

-- the whole log of a guild
abbrev pub seen_as : Seen → ℕ → List Edit → Seen
seen_as seen g log h = if g == h then log else seen h

-- the worker's guilds, and what it has handled of their logs
pub record Logs : Type 0 where
  pub guilds : List ℕ
  pub seen : Seen

-- the record of a guild is what the entries make that were handled
abbrev pub record_of : Seen → ℕ → Record
record_of seen g = state g (seen g)

abbrev pub records_of : Logs → List Record
records_of logs = map (record_of logs.seen) logs.guilds

abbrev pub Worker : Type 0
Worker = Machine Sent Logs

module _ (text : ℕ → Dispatch → List ℕ) where
  -- what a resume needs: how many dispatches there are, and the latest texts within the bot's limits
  abbrev pub replay : Sent → Replay
  replay sent = replay_of sent.ring_items sent.ring_bytes (texts_from text 0 (dispatches sent))

  abbrev pub in_model : Keeping Sent Logs
  in_model = record {
    text = text;
    records = λ logs. records_of logs;
    cursors = λ logs. cursors logs.seen;
    entered = λ g s e logs. record logs { seen = seen_with logs.seen g e };
    rebased = λ g log logs. record logs { seen = seen_as logs.seen g log };
    last = λ sent. length sent.told;
    replay = λ sent. replay sent;
    begins = λ bot now ds. record { told = told Start now now ds; ring_items = bot.ring_items; ring_bytes = bot.ring_bytes; end = None };
    tells = λ mark before after ds sent. record sent { told = sent.told ++ told mark before after ds };
    answers = λ made now ds sent. record sent { told = sent.told ++ chunks_told made now ds };
    ends = λ now x. ended_at now x;
  }

-- before the first input: each log empty, no connection and no session
abbrev pub first_worker : List Bot → List ℕ → ℕ → List ℕ → Worker
first_worker bots ids number url = record {
  url = url;
  now = 0;
  chunks = 0;
  logs = record { guilds = put_all own_id [] ids; seen = λ g. [] };
  core = no_sessions number bots;
}
