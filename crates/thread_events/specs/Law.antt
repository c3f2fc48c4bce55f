-- What a client holds after it was told what an edit of threads owes.
use Rattle.std.specs.Prelude.{◌≡◌, true, Some, None}
use Rattle.collections.specs.ById.{find_id}
use Rattle.perm_bits.specs.Bits.{has_bit}
use Rattle.intent_set.specs.Intents.{guilds}
use Rattle.guild_model.specs.declared.member.Member.{Member}
use Rattle.guild_model.specs.Record.{Record, member_id}
use Rattle.guild_model.specs.Ascending.{IsWell}
use Rattle.dispatch_types.specs.declared.viewer.Viewer.{Viewer}
use Rattle.dispatch_types.specs.Fold.{Held, fold_from}
use Rattle.thread_edit.specs.declared.ThreadEdit.{ThreadEdit}
use Rattle.thread_edit.specs.ThreadEdits.{thread_verdict, thread_applied}
use Rattle.event_views.specs.Has.{Has}
use Rattle.thread_events.specs.Ends.{thread_note}
use Rattle.thread_events.specs.Dispatches.{thread_dispatches}
use Rattle.thread_events.specs.ByNote.{thread_by_note}

-- a client that holds a member's view holds its view of the record after the edit
abbrev pub ThreadEditKeeps : Type 0
ThreadEditKeeps = (s : Record) (v : Viewer) (h : Held) (me : Member) (e : ThreadEdit) → IsWell s → IsWell (thread_applied s e) → s.opened ≡ true → thread_verdict s e ≡ None
    → find_id member_id v.user s.members ≡ Some me → has_bit v.intents guilds ≡ true
    → Has s v me h → Has (thread_applied s e) v me (fold_from v.intents s.id h (thread_dispatches s me (thread_applied s e) me v e))

-- the dispatches by what was noted of the record before an edit are those by that record
abbrev pub ThreadNoteIsEnough : Type 0
ThreadNoteIsEnough = (before after : Record) (e : ThreadEdit) (v : Viewer) (me me' : Member)
    → thread_by_note (thread_note before me e) after v me' e ≡ thread_dispatches before me after me' v e
