-- Entries of a log, handled one after another: each session that has not ended is sent what is due to its viewer.
use Rattle.std.specs.Prelude.{ℕ, ◌+◌, List, [], ◌∷◌, ◌++◌, Option, Some, None, if◌then◌else◌, map, flat_map}
use Rattle.guild_model.specs.Record.{Record}
use Rattle.edit_apply.specs.Edits.{after}
use Rattle.edit_apply.specs.declared.Edit.{Edit}
use Rattle.edit_events.specs.Due.{due}
use Rattle.session_core.specs.declared.reply.Mark.TheVariants.{Entry}
use Rattle.session_core.specs.State.{State, Session, is_live}
use Rattle.session_core.specs.Ends.{session_conns, all_ended}
use Rattle.world_law.specs.Keeping.{Keeping, Machine, with_sessions}
use Rattle.world_law.specs.Outputs.{Output, Closes, sends}

-- one entry of a guild's log, by the record before it
module _ {A R : Type 0} (keeping : Keeping A R) (logs : R) (g : ℕ) (s : Record) (e : Edit) where
  abbrev pub after_entry : Session A → Session A
  after_entry x =
      if is_live x.condition
      then record x { sent = keeping.tells (Entry g (keeping.cursors logs g + 1)) (keeping.cursors logs) (keeping.cursors (keeping.entered g s e logs)) (due s e x.viewer) x.sent }
      else x

module _ {A R : Type 0} (keeping : Keeping A R) where
  -- the same on its way to the session's connection
  abbrev pub entry_sends : Record → Edit → Session A → List Output
  entry_sends s e x = sends keeping.text x.condition (keeping.last x.sent) (due s e x.viewer)

  abbrev pub entered : Machine A R → ℕ → Record → Edit → Machine A R
  entered w g s e = record w {
    logs = keeping.entered g s e w.logs;
    core = with_sessions (map (after_entry keeping w.logs g s e) w.core.sessions) w.core;
  }

  -- entries in their order
  abbrev pub looked : Machine A R → ℕ → Record → List Edit → Machine A R
  looked w g s [] = w
  looked w g s (e ∷ es) = looked (entered w g s e) g (after s e) es

  abbrev pub look_sends : Machine A R → ℕ → Record → List Edit → List Output
  look_sends w g s [] = []
  look_sends w g s (e ∷ es) = flat_map (entry_sends s e) w.core.sessions ++ look_sends (entered w g s e) g (after s e) es

  -- a guild that the worker does not follow is not looked at
  abbrev pub looked_by : Option Record → Machine A R → ℕ → List Edit → Machine A R
  looked_by None w g es = w
  looked_by (Some s) w g es = looked w g s es

  abbrev pub look_sends_by : Option Record → Machine A R → ℕ → List Edit → List Output
  look_sends_by None w g es = []
  look_sends_by (Some s) w g es = look_sends w g s es

  -- a log is taken over whole: all sessions end, and the connections that have one are closed
  abbrev pub rebased_by : Option Record → Machine A R → ℕ → List Edit → Machine A R
  rebased_by None w g log = w
  rebased_by (Some s) w g log = record w {
    logs = keeping.rebased g log w.logs;
    core = all_ended (keeping.ends (keeping.cursors w.logs)) w.core;
  }

-- what goes out then
abbrev pub rebase_sends_by : {A : Type 0} → Option Record → State A → List Output
rebase_sends_by None s = []
rebase_sends_by (Some before) s = map (λ conn. Closes conn 4000) (session_conns s)
