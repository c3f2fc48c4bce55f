use Rattle.std.proofs.Common.{◌≡◌, false, ◌++◌, map, take, drop, length}
use Rattle.std.specs.Prelude.{flat_map}
use Rattle.std.specs.List.{list_any}
use Rattle.guild_model.specs.Record.{Record}
use Rattle.edit_apply.specs.declared.Edit.{Edit}
use Rattle.edit_events.specs.Due.{due}
use Rattle.worker_core.specs.Recipients.{Picks}
use Rattle.worker_core.specs.Looked.{told_more, told_sends, told_spends}
use Rattle.worker_core.specs.Outputs.{all_written}
use Rattle.world_law.specs.Keeping.{with_sessions}
use Rattle.worker_core.proofs.look.tell_each.Given as goal

abbrev pub invariant-loop-index : goal.invariant-loop-index
invariant-loop-index l = record {
  told : (s : Record) (e : Edit) → Picks l.lists.told.items l.lists.whose.items (map (due s e) l.recipients.viewers.items)
      → (l.sessions ≡ with_sessions (map (told_more s e) (take l.index l.fn.sessions.sessions) ++ drop l.index l.fn.sessions.sessions) l.fn.sessions)
      × ((l.out.items ≡ l.fn.out.items ++ all_written (flat_map (told_sends s e) (take l.index l.fn.sessions.sessions)))
      × (list_any (told_spends s e) (take l.index l.fn.sessions.sessions) ≡ false));
  as_many : length l.sessions.sessions ≡ length l.fn.sessions.sessions;
}
