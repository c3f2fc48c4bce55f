-- internal: cited by private functions only
-- Entries of a log, one after another, on sessions of which none has ended.
use Rattle.std.specs.Prelude.{List, [], ◌∷◌, ◌++◌, Bool, false, ◌||◌, length, map, flat_map}
use Rattle.std.specs.List.{list_any}
use Rattle.guild_model.specs.Record.{Record}
use Rattle.edit_apply.specs.Edits.{after}
use Rattle.edit_apply.specs.declared.Edit.{Edit}
pub use Rattle.edit_events.specs.Due.{due}
use Rattle.session_core.specs.State.{Session}
use Rattle.replay_ring.specs.Replay.{Replay}
use Rattle.world_law.specs.Outputs.{Output}
use Rattle.world_law.specs.Looks.{entry_sends}
use Rattle.world_law.specs.Spent.{is_past}
use Rattle.worker_core.specs.InCode.{in_code, held_with}

module _ (s : Record) (e : Edit) where
  abbrev pub told_more : Session Replay → Session Replay
  told_more x = record x { sent = held_with (due s e x.viewer) x.sent }

  abbrev pub told_sends : Session Replay → List Output
  told_sends x = entry_sends in_code s e x

  abbrev pub told_spends : Session Replay → Bool
  told_spends x = is_past x.sent.last (length (due s e x.viewer))

abbrev pub kept_looked : Record → List Edit → List (Session Replay) → List (Session Replay)
kept_looked s [] xs = xs
kept_looked s (e ∷ es) xs = kept_looked (after s e) es (map (told_more s e) xs)

abbrev pub kept_sends : Record → List Edit → List (Session Replay) → List Output
kept_sends s [] xs = []
kept_sends s (e ∷ es) xs = flat_map (told_sends s e) xs ++ kept_sends (after s e) es (map (told_more s e) xs)

abbrev pub kept_spends : Record → List Edit → List (Session Replay) → Bool
kept_spends s [] xs = false
kept_spends s (e ∷ es) xs = list_any (told_spends s e) xs || kept_spends (after s e) es (map (told_more s e) xs)
