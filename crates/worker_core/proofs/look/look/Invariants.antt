use Rattle.std.proofs.Common.{◌≡◌, ◌++◌, map, drop}
use Rattle.edit_apply.specs.Edits.{state_from}
use Rattle.worker_core.proofs.look.look.Given as goal
use Rattle.worker_core.specs.Recipients.{Picks, viewer_of}
use Rattle.worker_core.specs.Outputs.{all_written}
use Rattle.worker_core.specs.Looked.{kept_looked, kept_sends, kept_spends}
use Rattle.world_law.specs.Keeping.{with_sessions}

abbrev pub invariant-loop-entry : goal.invariant-loop-entry
invariant-loop-entry l = record {
  recipients : Picks l.recipients.viewers.items l.recipients.whose.items (map viewer_of l.sessions.sessions);
  guild : state_from l.replica.guild (drop l.entry-index l.entries) ≡ state_from l.fn.replica.guild l.entries;
  sessions : with_sessions (kept_looked l.replica.guild (drop l.entry-index l.entries) l.sessions.sessions) l.sessions ≡ with_sessions (kept_looked l.fn.replica.guild l.entries l.fn.sessions.sessions) l.fn.sessions;
  out : l.out.items ++ all_written (kept_sends l.replica.guild (drop l.entry-index l.entries) l.sessions.sessions) ≡ l.fn.out.items ++ all_written (kept_sends l.fn.replica.guild l.entries l.fn.sessions.sessions);
  spent : kept_spends l.replica.guild (drop l.entry-index l.entries) l.sessions.sessions ≡ kept_spends l.fn.replica.guild l.entries l.fn.sessions.sessions;
}
