-- THREAD_LIST_SYNC after a change of permissions (Gateway Events, Thread List Sync; Threads, Syncing for
-- Channel Gain).
use Rattle.std.specs.Prelude.{List}
use Rattle.guild_model.specs.declared.member.Member.{Member}
use Rattle.guild_model.specs.Record.{Record}
use Rattle.dispatch_types.specs.declared.viewer.Viewer.{Viewer}
use Rattle.dispatch_types.specs.declared.dispatch.Dispatch.{Dispatch}
use Rattle.thread_sync.specs.Shown.{shown_to}
use Rattle.thread_sync.specs.Sync.{uncovered_to}
use Rattle.event_views.specs.Asked.{told_if}

-- what the viewer's own member sees of the record after the change and did not see of the record before
abbrev pub synced : Record → Member → Record → Member → Viewer → List Dispatch
synced before me after me' v = told_if v (uncovered_to (shown_to before me) after me')
