-- A client that was told all that it is due holds the projection.
use Rattle.std.specs.Prelude.{◌≡◌, ℕ, true, false, ◌==◌, Some}
use Rattle.perm_bits.specs.Bits.{has_bit}
use Rattle.intent_set.specs.Intents.{guilds}
use Rattle.guild_model.specs.declared.member.Member.{Member}
use Rattle.guild_model.specs.Record.{Record}
use Rattle.guild_model.specs.Ascending.{IsWell}
use Rattle.dispatch_types.specs.declared.viewer.Viewer.{Viewer}
use Rattle.dispatch_types.specs.declared.dispatch.Dispatch.TheVariants.{GuildCreate}
use Rattle.dispatch_types.specs.Serves.{served}
use Rattle.dispatch_types.specs.Projection.{projection}
use Rattle.dispatch_types.specs.Fold.{Held, purge, folded, fold_from}
use Rattle.edit_apply.specs.declared.Edit.{Edit}
use Rattle.edit_apply.specs.Edits.{after, accepts, applied}
use Rattle.edit_events.specs.Greeting.{greeting}
use Rattle.edit_events.specs.Due.{due}
use Rattle.edit_events.specs.ByNote.{due_between}
use Rattle.edit_events.specs.Was.{was_of}

-- what is given by what was noted of the record before an accepted edit is what is due by that record
abbrev pub NoteIsEnough : Type 0
NoteIsEnough = (s : Record) (e : Edit) (v : Viewer) → accepts s e ≡ true
    → due_between (applied s e) v (was_of s v e) (served v (applied s e)) e ≡ due s e v

-- what a client holds of a guild is the projection of its record
pub record Agrees (s : Record) (v : Viewer) (h : Held) : Type 0 where
  pub bot : h.bot ≡ v.user
  pub view : h.view ≡ projection s v h.known

-- after what an edit owes, the client holds the projection of the record after it
abbrev pub EditKeeps : Type 0
EditKeeps = (s : Record) (e : Edit) (v : Viewer) (h : Held) → IsWell s
    → Agrees s v h → Agrees (after s e) v (fold_from v.intents s.id h (due s e v))

-- a purge leaves a client that holds the projection as it is
abbrev pub ProjectionStays : Type 0
ProjectionStays = (s : Record) (v : Viewer) (h : Held) → IsWell s → Agrees s v h → purge v.intents s.id h ≡ h

-- what is due for an edit of another guild leaves a client that a purge leaves as it is
abbrev pub OthersStay : Type 0
OthersStay = (s : Record) (e : Edit) (v : Viewer) (g : ℕ) (h : Held) → (s.id == g) ≡ false
    → purge v.intents g h ≡ h → fold_from v.intents g h (due s e v) ≡ h

-- GUILD_CREATE of a served guild that is available brings the projection, whatever was held
abbrev pub GreetingHolds : Type 0
GreetingHolds = (s : Record) (v : Viewer) (h : Held) (me : Member) → IsWell s → served v s ≡ Some me → s.outage ≡ false
    → has_bit v.intents guilds ≡ true → h.bot ≡ v.user → Agrees s v (folded v.intents s.id h (GuildCreate (greeting s v me)))

abbrev pub GreetingStays : Type 0
GreetingStays = (s : Record) (v : Viewer) (g : ℕ) (h : Held) (me : Member) → (s.id == g) ≡ false
    → purge v.intents g h ≡ h → folded v.intents g h (GuildCreate (greeting s v me)) ≡ h
