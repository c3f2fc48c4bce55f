-- A client that holds all of a guild and is told what an edit owes holds all of it as it then is.
use Rattle.std.specs.Prelude.{◌≡◌, true, false, Some}
use Rattle.perm_bits.specs.Bits.{has_bit}
use Rattle.intent_set.specs.Intents.{guilds}
use Rattle.guild_model.specs.declared.member.Member.{Member}
use Rattle.guild_model.specs.Record.{Record}
use Rattle.guild_model.specs.Ascending.{IsWell}
use Rattle.dispatch_types.specs.declared.viewer.Viewer.{Viewer}
use Rattle.dispatch_types.specs.Serves.{served}
use Rattle.dispatch_types.specs.Fold.{Held, fold_from}
use Rattle.event_views.specs.Has.{Has}
use Rattle.edit_apply.specs.declared.Edit.{Edit}
use Rattle.edit_apply.specs.Edits.{accepts, applied}
use Rattle.whole_events.specs.Dispatches.{whole_dispatches}
use Rattle.whole_events.specs.ByNote.{by_note}
use Rattle.whole_events.specs.Notes.{note_of}

-- an accepted edit of a guild that is available before and after it, for a viewer that is served before and after
pub record Between (s : Record) (e : Edit) (v : Viewer) (me me' : Member) : Type 0 where
  pub well : IsWell s
  pub accepted : accepts s e ≡ true
  pub is : served v s ≡ Some me
  pub is' : served v (applied s e) ≡ Some me'
  pub here : s.outage ≡ false
  pub here' : (applied s e).outage ≡ false

abbrev pub EditFollows : Type 0
EditFollows = (s : Record) (e : Edit) (v : Viewer) (me me' : Member) (h : Held) → Between s e v me me' → has_bit v.intents guilds ≡ true
    → Has s v me h → Has (applied s e) v me' (fold_from v.intents s.id h (whole_dispatches s me (applied s e) me' v e))

-- what is given by what was noted of the record before an edit is what is owed by that record
abbrev pub NoteIsEnough : Type 0
NoteIsEnough = (s : Record) (e : Edit) (v : Viewer) (me me' : Member) → served v s ≡ Some me → served v (applied s e) ≡ Some me'
    → by_note (note_of s me e) (applied s e) v me' e ≡ whole_dispatches s me (applied s e) me' v e
