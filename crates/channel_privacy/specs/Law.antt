-- What is noted of the record before an edit is enough.
use Rattle.std.specs.Prelude.{◌≡◌, ℕ, List, Bool}
use Rattle.collections.specs.ById.{has_id}
use Rattle.guild_model.specs.declared.member.Member.{Member}
use Rattle.guild_model.specs.Record.{Record, channel_id, voice_id}
use Rattle.guild_model.specs.Sight.{standing}
use Rattle.dispatch_types.specs.declared.viewer.Viewer.{Viewer}
use Rattle.dispatch_types.specs.declared.dispatch.Dispatch.{Dispatch}
use Rattle.guild_model.specs.Shown.{is_shown, shown_channels, shown_voices}
use Rattle.channel_privacy.specs.Withheld.{Showing, withheld}
use Rattle.channel_privacy.specs.ByNote.{shown_before, withheld_by}

-- which channels are shown before and after an edit, where they are withheld before it, and after it
abbrev pub showing : Bool → Record → Member → Bool → Record → Member → Showing
showing private s me private' t me' = record {
  before = λ (id : ℕ). has_id channel_id id (shown_channels private s me);
  after = is_shown private' (standing t me');
  in_voice = λ (user : ℕ). has_id voice_id user (shown_voices private s me);
}

abbrev pub NoteIsEnough : Type 0
NoteIsEnough = (private : Bool) (s : Record) (me : Member) (private' : Bool) (t : Record) (me' : Member) (v : Viewer) (ds : List Dispatch)
    → t.id ≡ s.id
    → withheld_by (shown_before private s me) private' t me' v ds ≡ withheld s t (showing private s me private' t me') v ds
