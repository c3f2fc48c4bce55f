-- Which inputs would raise a count past what its type holds: how many sessions a worker has made (32 bits), how
-- many chunks of members (64 bits), and the number of a session's last dispatch (64 bits).
use Rattle.std.specs.Prelude.{ℕ, ◌+◌, ◌-◌, ◌^◌, List, [], ◌∷◌, Bool, false, ◌&&◌, ◌||◌, Option, Some, None, nat_lt, length}
use Rattle.std.specs.List.{list_any}
use Rattle.std.specs.Option.{option_map_or}
use Rattle.guild_model.specs.Record.{Record}
use Rattle.edit_apply.specs.Edits.{after}
use Rattle.edit_apply.specs.declared.Edit.{Edit}
use Rattle.edit_events.specs.Due.{due}
use Rattle.session_core.specs.State.{Session, is_live}
use Rattle.session_core.specs.Frames.{Want, Members, Presence, Voice, Move, Nothing, Answers, ClosesWith, Begins, Denies, Resumes, Wants, is_spent}
use Rattle.world_law.specs.Keeping.{Keeping, Machine, record_at}
use Rattle.world_law.specs.Looks.{entered}
use Rattle.world_law.specs.Greeting.{first_dispatches}
use Rattle.world_law.specs.Wants.{numbered, answer_to}
use Rattle.world_law.specs.Frames.{move_at}
use Rattle.world_law.specs.Inputs.{Input, Look, Rebase, Open, Frame, Lost, Closed, Tick}

-- more dispatches than can be counted after this many
abbrev pub is_past : ℕ → ℕ → Bool
is_past count more = nat_lt 0 more && nat_lt (2 ^ 64 - 1) (count + more)

-- as many chunks more, of a worker and of one of its sessions
abbrev pub chunks_spend : (made last more : ℕ) → Bool
chunks_spend made last more = is_past made more || is_past last more

module _ {A R : Type 0} (keeping : Keeping A R) where
  abbrev pub entry_spends : Record → Edit → Session A → Bool
  entry_spends s e x = is_live x.condition && is_past (keeping.last x.sent) (length (due s e x.viewer))

  abbrev pub look_spends : Machine A R → ℕ → Record → List Edit → Bool
  look_spends w g s [] = false
  look_spends w g s (e ∷ es) = list_any (entry_spends s e) w.core.sessions || look_spends (entered keeping w g s e) g (after s e) es

  abbrev pub look_spends_by : Option Record → Machine A R → ℕ → List Edit → Bool
  look_spends_by None w g es = false
  look_spends_by (Some s) w g es = look_spends w g s es

  abbrev pub want_spends : Machine A R → Want → Session A → Bool
  want_spends w (Members ask) x = chunks_spend w.chunks (keeping.last x.sent) (length (answer_to keeping w ask x))
  want_spends w (Presence status) x = false
  want_spends w (Voice ask) x = false

  abbrev pub frame_spends : Machine A R → Move → Bool
  frame_spends w Nothing = false
  frame_spends w Answers = false
  frame_spends w (ClosesWith code) = false
  frame_spends w (Begins bot v) = is_spent (Begins bot v) w.core || is_past 0 (length (first_dispatches keeping w v bot.name (w.core.made + 1)))
  frame_spends w Denies = false
  frame_spends w (Resumes number older seq held) = false
  frame_spends w (Wants number want) = option_map_or (want_spends w want) (numbered number w.core.sessions) false

  abbrev pub spends : Machine A R → Input → Bool
  spends w (Look g es) = look_spends_by (record_at keeping w.logs g) w g es
  spends w (Rebase g log) = false
  spends w (Open conn) = false
  spends w (Frame conn text) = frame_spends w (move_at keeping w conn text)
  spends w (Lost conn) = false
  spends w (Closed conn code) = false
  spends w (Tick now) = false
