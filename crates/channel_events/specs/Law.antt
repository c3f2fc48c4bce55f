-- A client that is told what an edit of channels or overwrites owes holds the view of the record after it.
use Rattle.std.specs.Prelude.{◌≡◌, true, Some, None}
use Rattle.collections.specs.ById.{find_id}
use Rattle.perm_bits.specs.Bits.{has_bit}
use Rattle.intent_set.specs.Intents.{guilds}
use Rattle.guild_model.specs.declared.member.Member.{Member}
use Rattle.guild_model.specs.Record.{Record, member_id}
use Rattle.guild_model.specs.Ascending.{IsWell}
use Rattle.channel_edit.specs.declared.ChannelEdit.{ChannelEdit}
use Rattle.channel_edit.specs.ChannelEdits.{channel_verdict, channel_applied}
use Rattle.dispatch_types.specs.declared.viewer.Viewer.{Viewer}
use Rattle.dispatch_types.specs.Fold.{Held, fold_from}
use Rattle.event_views.specs.Has.{Has}
use Rattle.channel_events.specs.Ends.{channel_note}
use Rattle.channel_events.specs.Dispatches.{channel_dispatches}
use Rattle.channel_events.specs.ByNote.{channel_by_note}

abbrev pub ChannelEditKeeps : Type 0
ChannelEditKeeps = (s : Record) (v : Viewer) (h : Held) (me : Member) (e : ChannelEdit) → IsWell s → IsWell (channel_applied s e) → s.opened ≡ true
    → channel_verdict s e ≡ None → find_id member_id v.user s.members ≡ Some me → has_bit v.intents guilds ≡ true
    → Has s v me h → Has (channel_applied s e) v me (fold_from v.intents s.id h (channel_dispatches s me (channel_applied s e) me v e))

-- the dispatches by what was noted of the record before an edit are those by that record
abbrev pub ChannelNoteIsEnough : Type 0
ChannelNoteIsEnough = (s : Record) (e : ChannelEdit) (v : Viewer) (me : Member)
    → channel_by_note (channel_note s me e) (channel_applied s e) v me e
    ≡ channel_dispatches s me (channel_applied s e) me v e
