-- A worker, and what it keeps of the logs that it follows and of a session's dispatches. The model keeps all of
-- them; a program keeps the records of the guilds, and of a session what a resume needs.
use Rattle.std.specs.Prelude.{ℕ, List, Option}
use Rattle.collections.specs.ById.{find_id}
use Rattle.guild_model.specs.Record.{Record}
use Rattle.dispatch_types.specs.declared.dispatch.Dispatch.{Dispatch}
use Rattle.edit_apply.specs.declared.Edit.{Edit}
use Rattle.replay_ring.specs.Replay.{Replay}
use Rattle.session_core.specs.declared.bot.Bot.{Bot}
use Rattle.session_core.specs.declared.reply.Mark.{Mark}
use Rattle.session_core.specs.State.{State, Session}

-- how many entries of each guild's log were handled
abbrev pub Cursors : Type 0
Cursors = ℕ → ℕ

-- `R` is what is kept of the logs, `A` what is kept of a session's dispatches
pub record Keeping (A R : Type 0) : Type 0 where
  -- the text of a dispatch with its number
  pub text : ℕ → Dispatch → List ℕ
  -- the records of the worker's guilds, ascending by id
  pub records : R → List Record
  pub cursors : R → Cursors
  -- one more entry of a guild's log was handled, by the record before it
  pub entered : ℕ → Record → Edit → R → R
  -- a whole log of a guild was taken over
  pub rebased : ℕ → List Edit → R → R
  -- the number of a session's last dispatch
  pub last : A → ℕ
  -- what a resume needs
  pub replay : A → Replay
  -- the first dispatches of a bot's session, with the cursors then
  pub begins : Bot → Cursors → List Dispatch → A
  -- dispatches more, under one mark, with the cursors before and after
  pub tells : Mark → Cursors → Cursors → List Dispatch → A → A
  -- chunks of members, each under a mark of its own, after so many chunks
  pub answers : ℕ → Cursors → List Dispatch → A → A
  -- what is left of a session that ends
  pub ends : Cursors → Session A → List (Session A)

-- a worker: the URL that READY names, its time, how many chunks of members it has made, what it keeps of the
-- logs, its connections and sessions
pub record Machine (A R : Type 0) : Type 0 where
  pub url : List ℕ
  pub now : ℕ
  pub chunks : ℕ
  pub logs : R
  pub core : State A

abbrev pub record_id : Record → ℕ
record_id s = s.id

-- the record of a guild, if the worker follows it
abbrev pub record_at : {A R : Type 0} → Keeping A R → R → ℕ → Option Record
record_at keeping logs g = find_id record_id g (keeping.records logs)

abbrev pub with_sessions : {A : Type 0} → List (Session A) → State A → State A
with_sessions xs s = record s { sessions = xs }
